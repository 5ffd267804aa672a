-- The sets at an object, as members come and go.
use Rattle.std.proofs.Common.{◌≡◌, ◌⊎◌, ℕ, ◌==◌, ◌||◌, not, Bool, true, false, cond, List, [], ◌∷◌, ◌++◌, map, slice_get, Option, Some, None, refl, sym, ap, ◌∙◌, inl, inr, subst, eq-eqb}
use Rattle.std.specs.Global.{Vec}
use Rattle.std.specs.BTreeMap.{BTreeMap}
use Rattle.std.specs.List.{find, list_any, position_or_len}
use Rattle.std.specs.Option.{IfSome, option_map}
use Rattle.std.proofs.lemmas.Bool.{cases_eq, false≢true}
use Rattle.handle_set.specs.declared.records.TrackedMember.{TrackedMember}
use Rattle.handle_set.specs.declared.settle.OpenSet.{OpenSet}
use Rattle.handle_set.specs.Holders.{IsHeld, at_object, holders_in, is_holder, with_number, without_number}
use Rattle.handle_set.specs.Members.{has_object, set_if}
use Rattle.handle_set.specs.Sets.{AreOnce, Each, has_id, has_member, id_of, is_number, members_changed, with_changed}
use Rattle.handle_set.proofs.Places.{none_passes}
use Rattle.handle_set.proofs.Levels.{equal_ids}
use Rattle.handle_set.proofs.Changing.{IsFewer, each_set_at, found_id}
use Rattle.handle_set.proofs.Spreading.{not_found, only}

-- a change of one set's members that adds none
pub changed_held : (holders : BTreeMap ℕ (Vec ℕ)) (change : List TrackedMember → List TrackedMember) → IsFewer change → (sets : List OpenSet) (id : ℕ) → IsHeld holders sets → IsHeld holders (members_changed change id sets)
changed_held holders change fewer sets id held = by_found (slice_get sets (position_or_len (has_id id) sets)) refl
  where
    by_found : (o : Option OpenSet) → slice_get sets (position_or_len (has_id id) sets) ≡ o → IsHeld holders (set_if sets (position_or_len (has_id id) sets) (option_map (with_changed change) o))
    by_found None is = held
    by_found (Some s) is =
        each_set_at change sets (position_or_len (has_id id) sets) s is (λ t. Each t.members (λ told. is_holder holders told.object.serial t.id ≡ true)) held
        (fewer (λ o i e. is_holder holders o.serial s.id ≡ true) s.members (held (position_or_len (has_id id) sets) s is))

-- one number more

any_end : (p : ℕ → Bool) (ns : List ℕ) (n : ℕ) → list_any p ns ≡ true → list_any p (ns ++ n ∷ []) ≡ true
any_end p [] n is = absurd (cc)
any_end p (m ∷ ms) n is = by_test (p m) is (any_end p ms n)
  where
    by_test : (b : Bool) → (b || list_any p ms) ≡ true → (list_any p ms ≡ true → list_any p (ms ++ n ∷ []) ≡ true) → (b || list_any p (ms ++ n ∷ [])) ≡ true
    by_test true here rest = refl
    by_test false more rest = rest more

any_last : (p : ℕ → Bool) (ns : List ℕ) (n : ℕ) → p n ≡ true → list_any p (ns ++ n ∷ []) ≡ true
any_last p [] n is = rw is refl
any_last p (m ∷ ms) n is = by_test (p m) (any_last p ms n is)
  where
    by_test : (b : Bool) → list_any p (ms ++ n ∷ []) ≡ true → (b || list_any p (ms ++ n ∷ [])) ≡ true
    by_test true rest = refl
    by_test false rest = rest

more_numbers : (id n : ℕ) (ids : List ℕ) → list_any (is_number n) ids ≡ true → list_any (is_number n) (with_number id ids) ≡ true
more_numbers id n ids is = by_test (list_any (is_number id) ids)
  where
    by_test : (b : Bool) → list_any (is_number n) (cond b ids (ids ++ id ∷ [])) ≡ true
    by_test true = is
    by_test false = any_end (is_number n) ids id is

own_number : (id : ℕ) (ids : List ℕ) → list_any (is_number id) (with_number id ids) ≡ true
own_number id ids = by_test (list_any (is_number id) ids) refl
  where
    by_test : (b : Bool) → list_any (is_number id) ids ≡ b → list_any (is_number id) (cond b ids (ids ++ id ∷ [])) ≡ true
    by_test true is = is
    by_test false is = any_last (is_number id) ids id (eq-eqb id id refl)

module _ (was now : BTreeMap ℕ (Vec ℕ)) (object id : ℕ) (added : (n : ℕ) → holders_in now n ≡ at_object (with_number id) object n (holders_in was n)) where
  pub registered_held : (sets : List OpenSet) → IsHeld was sets → IsHeld now sets
  registered_held sets held k s at j told there =
      ap (list_any (is_number s.id)) (added told.object.serial) ∙ by_test (told.object.serial == object) (held k s at j told there)
    where
      by_test : (b : Bool) → list_any (is_number s.id) (holders_in was told.object.serial) ≡ true → list_any (is_number s.id) (cond b (with_number id (holders_in was told.object.serial)) (holders_in was told.object.serial)) ≡ true
      by_test true is = more_numbers id s.id (holders_in was told.object.serial) is
      by_test false is = is

  pub registered : is_holder now object id ≡ true
  registered =
      ap (list_any (is_number id)) (added object)
      ∙ ap (λ b. list_any (is_number id) (cond b (with_number id (holders_in was object)) (holders_in was object))) (eq-eqb object object refl)
      ∙ own_number id (holders_in was object)

pub kept_held : (was now : BTreeMap ℕ (Vec ℕ)) → ((n : ℕ) → holders_in now n ≡ holders_in was n) → (sets : List OpenSet) → IsHeld was sets → IsHeld now sets
kept_held was now same sets held k s at j told there = ap (list_any (is_number s.id)) (same told.object.serial) ∙ held k s at j told there

-- one number less

less_numbers : (id n : ℕ) (ids : List ℕ) → (n == id) ≡ false → list_any (is_number n) ids ≡ true → list_any (is_number n) (without_number id ids) ≡ true
less_numbers id n [] other is = is
less_numbers id n (m ∷ ms) other is = by_test (m == id) (m == n) refl refl is (less_numbers id n ms other)
  where
    by_test : (b c : Bool) → (m == id) ≡ b → (m == n) ≡ c → (c || list_any (is_number n) ms) ≡ true → (list_any (is_number n) ms ≡ true → list_any (is_number n) (without_number id ms) ≡ true) → list_any (is_number n) (cond (not b) (m ∷ without_number id ms) (without_number id ms)) ≡ true
    by_test true true gone same here rest =
        let equal = sym (equal_ids m n same) ∙ equal_ids m id gone in
        absurd (false≢true (sym other ∙ eq-eqb n id equal))
    by_test true false gone same more rest = rest more
    by_test false true gone same here rest = rw same refl
    by_test false false gone same more rest = rw same (rest more)

pub released_held : (was now : BTreeMap ℕ (Vec ℕ)) (object id : ℕ) → ((n : ℕ) → holders_in now n ≡ at_object (without_number id) object n (holders_in was n)) → (sets : List OpenSet)
    → Each sets (λ s. (s.id == id) ≡ true → has_member object s ≡ false) → IsHeld was sets → IsHeld now sets
released_held was now object id less sets none held k s at j told there =
    ap (list_any (is_number s.id)) (less told.object.serial) ∙ by_test (told.object.serial == object) (s.id == id) refl refl (held k s at j told there)
  where
    by_test : (b c : Bool) → (told.object.serial == object) ≡ b → (s.id == id) ≡ c → list_any (is_number s.id) (holders_in was told.object.serial) ≡ true → list_any (is_number s.id) (cond b (without_number id (holders_in was told.object.serial)) (holders_in was told.object.serial)) ≡ true
    by_test false c is own here = here
    by_test true false is own here = less_numbers id s.id (holders_in was told.object.serial) own here
    by_test true true is own here = absurd (false≢true (sym (none_passes (has_object object) s.members (none k s at own) j told there) ∙ is))

-- the set of a number, as the code finds it, does not have the object

pub none_at : (sets : List OpenSet) (id object place : ℕ) → AreOnce (map id_of sets) → place ≡ position_or_len (has_id id) sets → (s : OpenSet) → slice_get sets place ≡ Some s → has_member object s ≡ false → Each sets (λ t. (t.id == id) ≡ true → has_member object t ≡ false)
none_at sets id object place once place_is s here none k t at own = by_place (cases_eq k place)
  where
    by_place : (k ≡ place) ⊎ (k ≡ place → ⊥) → has_member object t ≡ false
    by_place (inl same) =
        let there : slice_get sets place ≡ Some t = subst (λ j. slice_get sets j ≡ Some t) same at in
        let is : Some s ≡ Some t = sym here ∙ there in
        subst (λ o. IfSome o (λ u. has_member object u ≡ false)) is none
    by_place (inr other) =
        let apart = only sets k place s t once here at other in
        absurd (false≢true (sym (ap (λ n. t.id == n) (sym (found_id (λ ms. ms) sets id place place_is s here)) ∙ apart) ∙ own))

pub none_past : (sets : List OpenSet) (id object : ℕ) → find (has_id id) sets ≡ None → Each sets (λ t. (t.id == id) ≡ true → has_member object t ≡ false)
none_past sets id object gone k t at own = absurd (false≢true (sym (not_found sets id gone k t at) ∙ own))
