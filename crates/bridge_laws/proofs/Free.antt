-- Where fewer than 64 entries are there, the address that a new one gets is free.
use Rattle.std.proofs.Common.{◌≡◌, ◌≤◌, ◌<◌, ℕ, zero, suc, ◌+◌, ◌==◌, ◌||◌, Bool, true, false, cond, not, List, [], ◌∷◌, length, Option, Some, None, refl, ap, ◌∙◌, sym, subst, arith, tests}
use Rattle.std.specs.List.{filter, find, list_any, range_with_len}
use Rattle.std.specs.Option.{unwrap_or}
use Rattle.kernel_values.specs.declared.world.BridgeEntry.{BridgeEntry}
use Rattle.kernel_types.specs.Device.{entry_limit, first_secure, free_secure, has_secure}
use Rattle.bridge_laws.proofs.Counts.{one_if, times, times_cons}

-- the entries that have other addresses
abbrev others : ℕ → List BridgeEntry → List BridgeEntry
others a entries = filter (λ entry. not (entry.secure == a)) entries

still_there : (entries : List BridgeEntry) (a s : ℕ) → (a == s) ≡ false → has_secure entries s ≡ true → has_secure (others a entries) s ≡ true
still_there [] a s differs has = absurd (cc)
still_there (entry ∷ entries) a s differs has =
    let P : Bool → Type 0 = λ b. (entry.secure == a) ≡ b → has_secure (cond (not b) (entry ∷ others a entries) (others a entries)) s ≡ true in
    let gone : P true = λ is.
    let is_a : entry.secure ≡ a = grind (arith, tests) in
    let other : (entry.secure == s) ≡ false = ap (λ (n : ℕ). n == s) is_a ∙ differs in
    still_there entries a s differs (subst (λ b. (b || has_secure entries s) ≡ true) other has) in
    let Q : Bool → Type 0 = λ b. (b || has_secure entries s) ≡ true → (b || has_secure (others a entries) s) ≡ true in
    let stays : (b : Bool) → Q b = λ b. elim b as (λ v. Q v) [ true ↦ (λ h. refl) | false ↦ (λ h. still_there entries a s differs h) ] in
    let go : (b : Bool) → P b = λ b. elim b as (λ v. P v) [ true ↦ gone | false ↦ (λ is. stays (entry.secure == s) has) ] in
    go (entry.secure == a) refl

no_longer : (entries : List BridgeEntry) (a : ℕ) → length (others a entries) ≤ length entries
no_longer [] a = omega arith
no_longer (entry ∷ entries) a =
    let rest : length (others a entries) ≤ length entries = no_longer entries a in
    elim (entry.secure == a) as (λ b. length (cond (not b) (entry ∷ others a entries) (others a entries)) ≤ length (entry ∷ entries)) [ true ↦ omega (arith, rest) | false ↦ omega (arith, rest) ]

shorter : (entries : List BridgeEntry) (a : ℕ) → has_secure entries a ≡ true → length (others a entries) < length entries
shorter [] a has = absurd (cc)
shorter (entry ∷ entries) a has =
    let P : Bool → Type 0 = λ b. (b || has_secure entries a) ≡ true → length (cond (not b) (entry ∷ others a entries) (others a entries)) < length (entry ∷ entries) in
    let go : (b : Bool) → P b = λ b. elim b as (λ v. P v) [
      | true ↦ (λ h. let rest : length (others a entries) ≤ length entries = no_longer entries a in omega (arith, rest))
      | false ↦ (λ h. let rest : length (others a entries) < length entries = shorter entries a h in omega (arith, rest))
    ] in
    go (entry.secure == a) has

-- as many addresses as are taken, as many entries are there at least
as_many : (m a : ℕ) (entries : List BridgeEntry) → ((s : ℕ) → a ≤ s → s < a + m → has_secure entries s ≡ true) → m ≤ length entries
as_many zero a entries taken = omega arith
as_many (suc m) a entries taken =
    let less : length (others a entries) < length entries = shorter entries a (taken a (omega arith) (omega arith)) in
    let rest : m ≤ length (others a entries) =
    as_many m (a + 1) (others a entries) (λ s from to.
    let differs : (a == s) ≡ false = grind (arith, tests, from) in
    still_there entries a s differs (taken s (omega (arith, from)) (omega (arith, to)))) in
    omega (arith, less, rest)

-- where a search finds nothing, nothing passes
none_passes : (p : ℕ → Bool) (m a : ℕ) → find p (range_with_len a m) ≡ None → (s : ℕ) → a ≤ s → s < a + m → p s ≡ false
none_passes p zero a none s from to = absurd (omega (arith, from, to))
none_passes p (suc m) a none s from to =
    let P : Bool → Type 0 = λ b. p a ≡ b → cond b (Some a) (find p (range_with_len (a + 1) m)) ≡ None → p s ≡ false in
    let later : (b : Bool) → (a == s) ≡ b → p a ≡ false → find p (range_with_len (a + 1) m) ≡ None → p s ≡ false =
    λ b. elim b as (λ v. (a == s) ≡ v → p a ≡ false → find p (range_with_len (a + 1) m) ≡ None → p s ≡ false) [
      | true ↦ (λ same not_a h. let is_a : a ≡ s = grind (arith, tests) in ap p (sym is_a) ∙ not_a)
      | false ↦ (λ other not_a h. let above : a + 1 ≤ s = grind (arith, tests, from) in none_passes p m (a + 1) h s above (omega (arith, to)))
    ] in
    let go : (b : Bool) → P b = λ b. elim b as (λ v. P v) [ true ↦ (λ is h. absurd (cc)) | false ↦ (λ is h. later (a == s) refl is h) ] in
    go (p a) refl none

-- what a search finds passes
one_passes : (p : ℕ → Bool) (xs : List ℕ) (x : ℕ) → find p xs ≡ Some x → p x ≡ true
one_passes p [] x is = absurd (cc)
one_passes p (y ∷ ys) x is =
    let P : Bool → Type 0 = λ b. p y ≡ b → cond b (Some y) (find p ys) ≡ Some x → p x ≡ true in
    let go : (b : Bool) → P b = λ b. elim b as (λ v. P v) [
      | true ↦ (λ passes h. let same : y ≡ x = cc in ap p (sym same) ∙ passes)
      | false ↦ (λ passes h. one_passes p ys x h)
    ] in
    go (p y) refl is

not_not : (b : Bool) → not b ≡ false → b ≡ true
not_not true is = refl
not_not false is = absurd (cc)

not_true : (b : Bool) → not b ≡ true → b ≡ false
not_true true is = absurd (cc)
not_true false is = refl

-- an address that no entry has stands in none
pub none_has : (entries : List BridgeEntry) (s : ℕ) → has_secure entries s ≡ false → times (λ (entry : BridgeEntry). entry.secure) s entries ≡ 0
none_has [] s none = refl
none_has (entry ∷ entries) s none =
    let P : Bool → Type 0 = λ b. (b || has_secure entries s) ≡ false → one_if b + times (λ (e : BridgeEntry). e.secure) s entries ≡ 0 in
    let go : (b : Bool) → P b = λ b. elim b as (λ v. P v) [ true ↦ (λ h. absurd (cc)) | false ↦ (λ h. let rest : times (λ (e : BridgeEntry). e.secure) s entries ≡ 0 = none_has entries s h in omega (arith, rest)) ] in
    times_cons (λ (e : BridgeEntry). e.secure) s entry entries ∙ go (entry.secure == s) none

found_free : (entries : List BridgeEntry) (m a : ℕ) → length entries < m → (o : Option ℕ) → find (λ secure. not (has_secure entries secure)) (range_with_len a m) ≡ o
    → has_secure entries (unwrap_or o a) ≡ false
found_free entries m a few None none =
    let many : m ≤ length entries =
    as_many m a entries (λ s from to. not_not (has_secure entries s) (none_passes (λ secure. not (has_secure entries secure)) m a none s from to)) in
    absurd (omega (arith, many, few))
found_free entries m a few (Some secure) is = not_true (has_secure entries secure) (one_passes (λ s. not (has_secure entries s)) (range_with_len a m) secure is)

pub free_is_free : (entries : List BridgeEntry) → length entries < 64 → has_secure entries (free_secure entries) ≡ false
unfolding free_secure entry_limit
free_is_free entries few = found_free entries 64 first_secure few (find (λ secure. not (has_secure entries secure)) (range_with_len first_secure 64)) refl
