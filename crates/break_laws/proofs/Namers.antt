-- Who names a number: a table or a wait, the bridge, or an object; and who does so still where an object is dropped.
use Rattle.std.proofs.Common.{◌≡◌, ℕ, ◌<◌, ◌==◌, ◌&&◌, ◌||◌, inl, inr, Bool, true, false, List, [], ◌∷◌, ◌++◌, map, Option, Some, None, refl, ap, subst, arith, tests}
use Rattle.std.specs.List.{AllByRecursion, filter, flat_map}
use Rattle.std.proofs.lemmas.Map.Views.{any-filter_same}
use Rattle.kernel_values.specs.declared.state.CoreState.{CoreState}
use Rattle.kernel_values.specs.declared.state.Object.{Object}
use Rattle.kernel_types.specs.Names.{Name, held_by, named_in, names_of, naming, root, table_names, wait_names}
use Rattle.kernel_types.specs.Reach.{Among, is_in}
use Rattle.set_laws.proofs.Known.{Known, together}
use Rattle.set_laws.proofs.Joined.{among_left, among_right, among_split}
use Rattle.count_laws.specs.Thinning.{In}
use Rattle.count_laws.proofs.Holding.{Holding, counted_in, held_in as holding_in, holds, in_root, root_in, roots, someone}
use Rattle.break_laws.specs.Held.{HeldAre}

-- Numbers of a list that passes a test.

pub in_filtered : (p : ℕ → Bool) (xs : List ℕ) (n : ℕ) → is_in (filter p xs) n ≡ (p n && is_in xs n)
in_filtered p xs n = any-filter_same (λ y. y == n) p (p n) (λ y e. let eq : y ≡ n = grind (arith, tests) in ap p eq) xs

pub both_of : (a b : Bool) → (a && b) ≡ true → (a ≡ true) × (b ≡ true)
both_of true true is = (refl, refl)
both_of true false is = absurd (cc)
both_of false b is = absurd (cc)

-- The names of tables and waits.

among_bridged : (xs : List ℕ) (n : ℕ) → Among (root n) (map root xs) → is_in xs n ≡ true
among_bridged [] n h = absurd h
among_bridged (x ∷ xs) n (inl e) =
    let same : x ≡ n = ap (λ (m : Name). m.object) e in
    let here : (x == n) ≡ true = grind (arith, tests) in
    ap (λ b. b || is_in xs n) here
among_bridged (x ∷ xs) n (inr h) = elim (x == n) as (λ b. (b || is_in xs n) ≡ true) [ true ↦ refl | false ↦ among_bridged xs n h ]

bridged_among : (xs : List ℕ) (n : ℕ) → is_in xs n ≡ true → Among (root n) (map root xs)
bridged_among [] n h = absurd (cc)
bridged_among (x ∷ xs) n h =
    let P : Bool → Type 0 = λ b. (x == n) ≡ b → (b || is_in xs n) ≡ true → Among (root n) (map root (x ∷ xs)) in
    let go : (b : Bool) → P b = λ b. elim b as (λ v. P v) [
      | true ↦ (λ e g. let same : x ≡ n = grind (arith, tests) in inl (ap root same))
      | false ↦ (λ e g. inr (bridged_among xs n g))
    ] in
    go (x == n) refl h

-- the state without the bridge's names
abbrev pub unnamed : CoreState → CoreState
unnamed c = record c { bridged = [] }

pub data Namer (c : CoreState) (n : ℕ) : Type 0 where
  by_root : Among (root n) (roots (unnamed c)) → Namer c n
  by_bridge : is_in c.bridged n ≡ true → Namer c n
  by_object : (x : Object) → In x c.objects → is_in (named_in x.body) n ≡ true → Namer c n

root_namer : (c : CoreState) (n : ℕ) → Among (root n) (roots c) → Namer c n
root_namer c n h =
    let tables : List Name = flat_map table_names c.apps in
    let bridge : List Name = map root c.bridged in
    let waits : List Name = flat_map wait_names c.threads in
    elim (among_split (root n) (tables ++ bridge) waits h) [
      | inl a ↦ elim (among_split (root n) tables bridge a) [
        | inl x ↦ by_root (among_left (root n) (tables ++ []) waits (among_left (root n) tables [] x))
        | inr y ↦ by_bridge (among_bridged c.bridged n y)
      ]
      | inr b ↦ by_root (among_right (root n) (tables ++ []) waits b)
    ]

namer_root : (c : CoreState) (n : ℕ) → Among (root n) (roots (unnamed c)) → Among (root n) (roots c)
namer_root c n h =
    let tables : List Name = flat_map table_names c.apps in
    let bridge : List Name = map root c.bridged in
    let waits : List Name = flat_map wait_names c.threads in
    elim (among_split (root n) (tables ++ []) waits h) [
      | inl a ↦ elim (among_split (root n) tables [] a) [
        | inl x ↦ among_left (root n) (tables ++ bridge) waits (among_left (root n) tables bridge x)
        | inr y ↦ absurd y
      ]
      | inr b ↦ among_right (root n) (tables ++ bridge) waits b
    ]

bridge_root : (c : CoreState) (n : ℕ) → is_in c.bridged n ≡ true → Among (root n) (roots c)
bridge_root c n is =
    let tables : List Name = flat_map table_names c.apps in
    among_left (root n) (tables ++ map root c.bridged) (flat_map wait_names c.threads) (among_right (root n) tables (map root c.bridged) (bridged_among c.bridged n is))

pub namer : (c : CoreState) (n : ℕ) → 0 < names_of (naming c) n → Namer c n
namer c n some =
    let found : (m : Name) × Among m (naming c) × (m.object ≡ n) = someone (naming c) n some in
    let go : (holder : Option ℕ) (named : ℕ) → Among (record { holder = holder; object = named }) (naming c) → Namer c named =
    λ holder named. elim holder as (λ v. Among (record { holder = v; object = named }) (naming c) → Namer c named) [
      | None ↦ (λ a. root_namer c named (root_in c named a))
      | Some by ↦ (λ a. let h : Holding c.objects by named = holding_in c by named a in by_object h.by h.within h.names)
    ] in
    subst (λ k. Namer c k) found.2 (go found.0.holder found.0.object found.1)

pub named : (c : CoreState) (n : ℕ) → Namer c n → 0 < names_of (naming c) n
named c n (by_root h) = counted_in (naming c) (root n) (in_root c n (namer_root c n h))
named c n (by_bridge is) = counted_in (naming c) (root n) (in_root c n (bridge_root c n is))
named c n (by_object x within names) = counted_in (naming c) (held_by x.id n) (holds c x within n names)

-- What is known of all that is held is known of what a table or a wait names, and of what an object names that is no port.

all_among : (P : ℕ → Type 0) (names : List Name) (m : Name) → AllByRecursion (λ name. P name.object) names → Among m names → P m.object
all_among P [] m all h = absurd h
all_among P (x ∷ xs) m all (inl e) = subst (λ (k : Name). P k.object) e all.0
all_among P (x ∷ xs) m all (inr h) = all_among P xs m all.1 h

pub root_known : (P : ℕ → Type 0) (c : CoreState) (n : ℕ) → HeldAre P c → Among (root n) (roots (unnamed c)) → P n
root_known P c n k h =
    let bare : CoreState = record c { bridged = []; objects = [] } in
    let known : Known P bare = record { tables = k.tables; bridged = tt; waits = k.waits; objects = tt } in
    all_among P (naming bare) (root n) (together P bare known) (in_root bare n h)
