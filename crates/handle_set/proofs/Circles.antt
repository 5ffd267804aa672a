-- Looking so many sets deep finds what is reached over memberships, since no chain has more than 8 sets.
use Rattle.std.proofs.Common.{◌≡◌, ◌⊎◌, ℕ, zero, suc, ◌+◌, ◌-◌, ◌<◌, ◌≤◌, ◌==◌, ◌||◌, Bool, true, false, List, [], ◌∷◌, map, slice_get, Option, Some, None, refl, sym, ap, ◌∙◌, inl, inr, arith, eq-eqb, subst}
use Rattle.std.specs.List.{list_any}
use Rattle.std.proofs.lemmas.Bool.Decides.{nat_tests}
use Rattle.kernel_types.specs.Names.{Name, root, held_by}
use Rattle.kernel_types.specs.Objects.{set_of}
use Rattle.kernel_types.specs.Reach.{Among, Reached, is_in}
use Rattle.kernel_types.specs.Reach.Reached.{by_root, by_holder}
use Rattle.kernel_types.specs.Sets.{is_or_contains, members_of, memberships, membership_names}
use Rattle.kernel_types.proofs.Reaching.{marked_is_reached}
use Rattle.set_laws.specs.Chains.{HasMember}
use Rattle.set_laws.proofs.Joined.{among_left, among_right, among_split}
use Rattle.handle_set.specs.declared.records.TrackedMember.{TrackedMember}
use Rattle.handle_set.specs.declared.settle.OpenSet.{OpenSet}
use Rattle.handle_set.specs.Chains.{object_value, objects_in, objects_of}
use Rattle.handle_set.specs.Sets.{AreOnce, id_of, IsRankedBy}
use Rattle.handle_set.specs.Within.{is_within}
use Rattle.handle_set.proofs.Places.{some_same}
use Rattle.handle_set.proofs.Standing.{Has, Holds, falls_at, has_held, held_has}

equal : (a b : ℕ) → (a == b) ≡ true → a ≡ b
equal a b is = grind (arith, nat_tests)

-- what the memberships name

named : (holder : ℕ) (members : List TrackedMember) (j : ℕ) (told : TrackedMember) → slice_get members j ≡ Some told → Among (held_by holder told.object.serial) (map (held_by holder) (objects_in members))
named holder [] j told here = absurd (cc)
named holder (x ∷ xs) zero told here = inl (ap (λ (t : TrackedMember). held_by holder t.object.serial) (some_same x told here))
named holder (x ∷ xs) (suc j) told here = inr (named holder xs j told here)

among_held : (sets : List OpenSet) (k : ℕ) (s : OpenSet) → slice_get sets k ≡ Some s → (j : ℕ) (told : TrackedMember) → slice_get s.members j ≡ Some told → Among (held_by s.id told.object.serial) (memberships (objects_of sets))
among_held [] k s at j told there = absurd (cc)
among_held (x ∷ xs) zero s at j told there =
    let is = some_same x s at in
    let one = named s.id s.members j told there in
    among_left (held_by s.id told.object.serial) (membership_names (object_value x)) (memberships (objects_of xs)) (subst (λ (y : OpenSet). Among (held_by s.id told.object.serial) (membership_names (object_value y))) (sym is) one)
among_held (x ∷ xs) (suc k) s at j told there = among_right (held_by s.id told.object.serial) (membership_names (object_value x)) (memberships (objects_of xs)) (among_held xs k s at j told there)

some_equal : (a b : ℕ) → Some a ≡ Some b → a ≡ b
some_equal a b e = cc

member_named : (holder outer inner : ℕ) (members : List TrackedMember) → Among (held_by outer inner) (map (held_by holder) (objects_in members)) → (holder ≡ outer) × Has members inner
member_named holder outer inner [] among = absurd among
member_named holder outer inner (x ∷ xs) (inl same) = (some_equal holder outer (ap (λ (n : Name). n.holder) same), record { at = 0; told = x; here = refl; same = ap (λ (n : Name). n.object) same })
member_named holder outer inner (x ∷ xs) (inr more) = let r = member_named holder outer inner xs more in (r.0, record { at = suc r.1.at; told = r.1.told; here = r.1.here; same = r.1.same })

held_among : (sets : List OpenSet) (outer inner : ℕ) → Among (held_by outer inner) (memberships (objects_of sets)) → Holds sets outer inner
held_among [] outer inner among = absurd among
held_among (x ∷ xs) outer inner among = elim (among_split (held_by outer inner) (membership_names (object_value x)) (memberships (objects_of xs)) among) [
  | inl first ↦
      let m = member_named x.id outer inner x.members first in
      record { set = x; stands = record { place = 0; here = refl; same = m.0 }; has = m.1 }
  | inr later ↦
      let r = held_among xs outer inner later in
      record { set = r.set; stands = record { place = suc r.stands.place; here = r.stands.here; same = r.stands.same }; has = r.has }
]

not_held : (holder : Option ℕ) (a b : ℕ) (n : Name) → n.holder ≡ Some a → n ≡ root b → ⊥
not_held holder a b n is same = let bad : Some a ≡ None = sym is ∙ ap (λ (m : Name). m.holder) same in absurd (cc)

no_root : (object : ℕ) (sets : List OpenSet) → Among (root object) (memberships (objects_of sets)) → ⊥
no_root object [] among = among
no_root object (x ∷ xs) among = elim (among_split (root object) (membership_names (object_value x)) (memberships (objects_of xs)) among) [
  | inl first ↦ no_named x.members first
  | inr later ↦ no_root object xs later
]
  where
    no_named : (members : List TrackedMember) → Among (root object) (map (held_by x.id) (objects_in members)) → ⊥
    no_named [] bad = bad
    no_named (t ∷ ts) (inl same) = not_held None x.id object (held_by x.id t.object.serial) refl same
    no_named (t ∷ ts) (inr more) = no_named ts more

-- tests of some item

some_passes : (p : ℕ → Bool) (xs : List ℕ) → list_any p xs ≡ true → (x : ℕ) × (is_in xs x ≡ true) × (p x ≡ true)
some_passes p [] some = absurd (cc)
some_passes p (y ∷ ys) some = by_test (p y) refl some (some_passes p ys)
  where
    by_test : (b : Bool) → p y ≡ b → (b || list_any p ys) ≡ true → (list_any p ys ≡ true → (x : ℕ) × (is_in ys x ≡ true) × (p x ≡ true)) → (x : ℕ) × (((y == x) || is_in ys x) ≡ true) × (p x ≡ true)
    by_test true is first rest = (y, rw (eq-eqb y y refl) refl, is)
    by_test false is more rest = let r = rest more in (r.0, either (y == r.0) (is_in ys r.0) r.1, r.2)
      where
        either : (b c : Bool) → c ≡ true → (b || c) ≡ true
        either true c is_c = refl
        either false c is_c = is_c

passes_some : (p : ℕ → Bool) (xs : List ℕ) (x : ℕ) → is_in xs x ≡ true → p x ≡ true → list_any p xs ≡ true
passes_some p [] x here is = absurd (cc)
passes_some p (y ∷ ys) x here is = by_test (y == x) refl here (passes_some p ys x)
  where
    either : (b c : Bool) → c ≡ true → (b || c) ≡ true
    either true c is_c = refl
    either false c is_c = is_c

    by_test : (b : Bool) → (y == x) ≡ b → (b || is_in ys x) ≡ true → (is_in ys x ≡ true → p x ≡ true → list_any p ys ≡ true) → (p y || list_any p ys) ≡ true
    by_test true same first rest = rw (ap p (equal y x same) ∙ is) refl
    by_test false same more rest = either (p y) (list_any p ys) (rest more is)

any_weaker : (p q : ℕ → Bool) → ((x : ℕ) → p x ≡ true → q x ≡ true) → (xs : List ℕ) → list_any p xs ≡ true → list_any q xs ≡ true
any_weaker p q weaker xs some = let r = some_passes p xs some in passes_some q xs r.0 r.1 (weaker r.0 r.2)

module _ (sets : List OpenSet) (inner : ℕ) where
  -- one set deeper finds no less

  deeper : (depth outer : ℕ) → is_within depth (objects_of sets) inner outer ≡ true → is_within (suc depth) (objects_of sets) inner outer ≡ true
  deeper zero outer is = rw is refl
  deeper (suc depth) outer is = by_test (outer == inner) (deeper depth) is
    where
      by_test : (b : Bool) → ((o : ℕ) → is_within depth (objects_of sets) inner o ≡ true → is_within (suc depth) (objects_of sets) inner o ≡ true) → (b || list_any (is_within depth (objects_of sets) inner) (members_of (set_of (objects_of sets) outer))) ≡ true → (b || list_any (is_within (suc depth) (objects_of sets) inner) (members_of (set_of (objects_of sets) outer))) ≡ true
      by_test true rest here = refl
      by_test false rest more = any_weaker (is_within depth (objects_of sets) inner) (is_within (suc depth) (objects_of sets) inner) rest (members_of (set_of (objects_of sets) outer)) more

  deeper_by : (more depth outer : ℕ) → is_within depth (objects_of sets) inner outer ≡ true → is_within (more + depth) (objects_of sets) inner outer ≡ true
  deeper_by zero depth outer is = let same : 0 + depth ≡ depth = omega arith in rw same is
  deeper_by (suc more) depth outer is = let same : suc more + depth ≡ suc (more + depth) = omega arith in rw same (deeper (more + depth) outer (deeper_by more depth outer is))

  one_up : (depth outer middle : ℕ) → HasMember (objects_of sets) outer middle → is_within depth (objects_of sets) inner middle ≡ true → is_within (suc depth) (objects_of sets) inner outer ≡ true
  one_up depth outer middle holds is = either (outer == inner) (passes_some (is_within depth (objects_of sets) inner) (members_of (set_of (objects_of sets) outer)) middle holds is)
    where
      either : (b : Bool) → list_any (is_within depth (objects_of sets) inner) (members_of (set_of (objects_of sets) outer)) ≡ true → (b || list_any (is_within depth (objects_of sets) inner) (members_of (set_of (objects_of sets) outer))) ≡ true
      either true found_it = refl
      either false found_it = found_it

  module _ (outer : ℕ) where
    abbrev entries : List Name
    entries = root outer ∷ memberships (objects_of sets)

    -- what is found is reached
    sound : (depth middle : ℕ) → Reached entries middle → is_within depth (objects_of sets) inner middle ≡ true → Reached entries inner
    sound zero middle reached is = subst (Reached entries) (equal middle inner is) reached
    sound (suc depth) middle reached is = by_test (middle == inner) (sound depth) refl is
      where
        by_test : (b : Bool) → ((o : ℕ) → Reached entries o → is_within depth (objects_of sets) inner o ≡ true → Reached entries inner) → (middle == inner) ≡ b → (b || list_any (is_within depth (objects_of sets) inner) (members_of (set_of (objects_of sets) middle))) ≡ true → Reached entries inner
        by_test true rest same here = subst (Reached entries) (equal middle inner same) reached
        by_test false rest same more =
            let r = some_passes (is_within depth (objects_of sets) inner) (members_of (set_of (objects_of sets) middle)) more in
            let h = has_held sets middle r.0 r.1 in
            let named : Among (held_by middle r.0) (memberships (objects_of sets)) =
            subst (λ n. Among (held_by n r.0) (memberships (objects_of sets))) h.stands.same (subst (λ n. Among (held_by h.set.id n) (memberships (objects_of sets))) h.has.same (among_held sets h.stands.place h.set h.stands.here h.has.at h.has.told h.has.here)) in
            rest r.0 (by_holder middle r.0 reached (inr named)) r.2

    -- what is reached is found
    module _ (once : AreOnce (map id_of sets)) (rank : ℕ → ℕ) (ranked : IsRankedBy rank sets) where
      record Found (middle : ℕ) : Type 0 where
        depth : ℕ
        few : (depth ≡ 0) × (middle ≡ outer) ⊎ (depth + rank middle ≤ rank outer) × (rank outer ≤ 8)
        finds : (more : ℕ) → is_within more (objects_of sets) inner middle ≡ true → is_within (depth + more) (objects_of sets) inner outer ≡ true

      root_same : (a : ℕ) → root outer ≡ root a → outer ≡ a
      root_same a same = ap (λ (n : Name). n.object) same

      member_of_set : (holder object : ℕ) → Among (held_by holder object) entries → HasMember (objects_of sets) holder object
      member_of_set holder object (inl same) = absurd (not_held None holder outer (held_by holder object) refl (sym same))
      member_of_set holder object (inr named) =
          let h = held_among sets holder object named in
          subst (λ n. HasMember (objects_of sets) n object) h.stands.same (subst (λ n. HasMember (objects_of sets) h.set.id n) h.has.same (held_has sets once h.stands.place h.set h.stands.here h.has.at h.has.told h.has.here))

      found : (object : ℕ) → Reached entries object → Found object
      found object (by_root _ among) = from_root object among
        where
          from_root : (object : ℕ) → Among (root object) entries → Found object
          from_root object (inl same) = record { depth = 0; few = inl (refl, sym (root_same object same)); finds = λ more is. let none : 0 + more ≡ more = omega arith in rw none (rw (root_same object same) is) }
          from_root object (inr named) = absurd (no_root object sets named)
      found object (by_holder holder _ reached named) =
          let f = found holder reached in
          let holds = member_of_set holder object named in
          let falls = falls_at rank sets ranked holder object holds in
          record {
            depth = suc f.depth;
            few = inr (by_few f.depth holder object f.few falls);
            finds = λ more is. let same : suc f.depth + more ≡ f.depth + suc more = omega arith in rw same (f.finds (suc more) (one_up more holder object holds is));
          }
        where
          from_outer : (depth holder object : ℕ) → (depth ≡ 0) × (holder ≡ outer) → ((0 < rank holder) × (rank holder ≤ 8)) × (rank object < rank holder) → (suc depth + rank object ≤ rank outer) × (rank outer ≤ 8)
          from_outer depth holder object first falls =
              let none = first.0 in
              let same = ap rank first.1 in
              let few = falls.0.1 in
              let less = falls.1 in
              (omega arith, omega arith)

          from_below : (depth holder object : ℕ) → (depth + rank holder ≤ rank outer) × (rank outer ≤ 8) → ((0 < rank holder) × (rank holder ≤ 8)) × (rank object < rank holder) → (suc depth + rank object ≤ rank outer) × (rank outer ≤ 8)
          from_below depth holder object later falls =
              let below = later.0 in
              let less = falls.1 in
              (omega arith, later.1)

          by_few : (depth holder object : ℕ) → (depth ≡ 0) × (holder ≡ outer) ⊎ (depth + rank holder ≤ rank outer) × (rank outer ≤ 8) → ((0 < rank holder) × (rank holder ≤ 8)) × (rank object < rank holder) → (suc depth + rank object ≤ rank outer) × (rank outer ≤ 8)
          by_few depth holder object (inl first) falls = from_outer depth holder object first falls
          by_few depth holder object (inr later) falls = from_below depth holder object later falls

      most : (depth : ℕ) → (depth ≡ 0) × (inner ≡ outer) ⊎ (depth + rank inner ≤ rank outer) × (rank outer ≤ 8) → depth ≤ 8
      most depth (inl first) = let none = first.0 in omega arith
      most depth (inr later) = let below = later.0 in let few = later.1 in omega arith

      complete : Reached entries inner → is_within 8 (objects_of sets) inner outer ≡ true
      complete reached =
          let f = found inner reached in
          let here = f.finds 0 (eq-eqb inner inner refl) in
          let few = most f.depth f.few in
          let whole : (8 - f.depth) + (f.depth + 0) ≡ 8 = omega arith in
          subst (λ n. is_within n (objects_of sets) inner outer ≡ true) whole (deeper_by (8 - f.depth) (f.depth + 0) outer here)

      pub contains_is : is_within 8 (objects_of sets) inner outer ≡ is_or_contains (objects_of sets) outer inner
      unfolding is_or_contains
      contains_is = same_test _ _
          (λ is. (marked_is_reached entries inner).1 (sound 8 outer (by_root outer (inl refl)) is))
          (λ is. complete ((marked_is_reached entries inner).0 is))
        where
          same_test : (a b : Bool) → (a ≡ true → b ≡ true) → (b ≡ true → a ≡ true) → a ≡ b
          same_test true b there back = sym (there refl)
          same_test false true there back = back refl
          same_test false false there back = refl
