-- The open sets as sets of the kernel's state.
use Rattle.std.proofs.Common.{◌≡◌, ℕ, zero, suc, ◌+◌, ◌<◌, ◌≤◌, ◌==◌, ◌||◌, not, Bool, true, false, cond, List, [], ◌∷◌, length, map, set, slice_get, Option, Some, None, refl, sym, ap, ◌∙◌, arith, eq-eqb, subst}
use Rattle.std.specs.List.{find, position_or_len}
use Rattle.std.specs.Option.{is_some, option_map}
use Rattle.std.proofs.lemmas.Bool.Decides.{nat_tests}
use Rattle.std.proofs.lemmas.List.{map-append, map-set}
use Rattle.kernel_values.specs.declared.state.Object.{Object}
use Rattle.kernel_values.specs.declared.state.Member.{Member}
use Rattle.kernel_values.specs.declared.state.Body.TheVariants as body
use Rattle.kernel_types.specs.Objects.{set_if, as_set, as_memory, changed, memory_of, on_body, on_set, place_of, set_of}
use Rattle.kernel_types.specs.Reach.{is_in}
use Rattle.kernel_types.specs.Sets.{members_of, with_member}
use Rattle.kernel_laws.proofs.Found.{found, found_is}
use Rattle.set_laws.specs.Chains.{ChainFrom, HasMember, HasShortChains, IsSet}
use Rattle.handle_set.specs.declared.records.TrackedMember.{TrackedMember}
use Rattle.handle_set.specs.declared.settle.OpenSet.{OpenSet}
use Rattle.handle_set.specs.Adding.{with_pushed}
use Rattle.handle_set.specs.Chains.{member_of, object_value, objects_in, objects_of, set_value}
use Rattle.handle_set.specs.Sets.{AreOnce, has_id, id_of, is_number, with_changed, IsHeight, IsRankedBy}
use Rattle.handle_set.proofs.Places.{get_map, none_passes, some_same}

flip : (a b : ℕ) → (a == b) ≡ false → (b == a) ≡ false
flip a b is = grind (arith, nat_tests)

equal : (a b : ℕ) → (a == b) ≡ true → a ≡ b
equal a b is = grind (arith, nat_tests)

-- the set of a number

pub set_found : (sets : List OpenSet) (id : ℕ) → set_of (objects_of sets) id ≡ option_map set_value (find (has_id id) sets)
set_found sets id = ap as_set (found_is (objects_of sets) id) ∙ by_find sets
  where
    by_find : (xs : List OpenSet) → as_set (found (objects_of xs) id) ≡ option_map set_value (find (has_id id) xs)
    by_find [] = refl
    by_find (x ∷ xs) = by_test (x.id == id) (by_find xs)
      where
        by_test : (b : Bool) → as_set (found (objects_of xs) id) ≡ option_map set_value (find (has_id id) xs) → as_set (cond b (Some (object_value x)) (found (objects_of xs) id)) ≡ option_map set_value (cond b (Some x) (find (has_id id) xs))
        by_test true rest = refl
        by_test false rest = rest

pub no_memory : (sets : List OpenSet) (id : ℕ) → is_some (memory_of (objects_of sets) id) ≡ false
no_memory sets id = ap (λ (o : Option Object). is_some (as_memory o)) (found_is (objects_of sets) id) ∙ by_find sets
  where
    by_find : (xs : List OpenSet) → is_some (as_memory (found (objects_of xs) id)) ≡ false
    by_find [] = refl
    by_find (x ∷ xs) = by_test (x.id == id) (by_find xs)
      where
        by_test : (b : Bool) → is_some (as_memory (found (objects_of xs) id)) ≡ false → is_some (as_memory (cond b (Some (object_value x)) (found (objects_of xs) id))) ≡ false
        by_test true rest = refl
        by_test false rest = rest

-- a set that is open once is found by its number
pub once_found : (sets : List OpenSet) → AreOnce (map id_of sets) → (k : ℕ) (s : OpenSet) → slice_get sets k ≡ Some s → find (has_id s.id) sets ≡ Some s
once_found [] once k s here = absurd (cc)
once_found (x ∷ xs) once zero s here =
    let is = some_same x s here in
    let same : (x.id == s.id) ≡ true = eq-eqb x.id s.id (ap (λ (y : OpenSet). y.id) is) in
    rw same (ap Some is)
once_found (x ∷ xs) once (suc k) s here =
    let other : (x.id == s.id) ≡ false = flip s.id x.id (none_passes (is_number x.id) (map id_of xs) once.0 k s.id (get_map id_of xs k s here)) in
    rw other (once_found xs once.1 k s here)

pub set_at : (sets : List OpenSet) → AreOnce (map id_of sets) → (k : ℕ) (s : OpenSet) → slice_get sets k ≡ Some s → set_of (objects_of sets) s.id ≡ Some (set_value s)
set_at sets once k s here = set_found sets s.id ∙ ap (option_map set_value) (once_found sets once k s here)

pub record Stands (sets : List OpenSet) (id : ℕ) (s : OpenSet) : Type 0 where
  pub place : ℕ
  pub here : slice_get sets place ≡ Some s
  pub same : s.id ≡ id

pub found_stands : (sets : List OpenSet) (id : ℕ) (s : OpenSet) → find (has_id id) sets ≡ Some s → Stands sets id s
found_stands [] id s some = absurd (cc)
found_stands (x ∷ xs) id s some = by_test (x.id == id) refl some (found_stands xs id s)
  where
    by_test : (b : Bool) → (x.id == id) ≡ b → cond b (Some x) (find (has_id id) xs) ≡ Some s → (find (has_id id) xs ≡ Some s → Stands xs id s) → Stands (x ∷ xs) id s
    by_test true is first rest = record { place = 0; here = first; same = ap (λ (y : OpenSet). y.id) (sym (some_same x s first)) ∙ equal x.id id is }
    by_test false is more rest = let r = rest more in record { place = suc r.place; here = r.here; same = r.same }

-- the objects of the members

pub record Has (members : List TrackedMember) (object : ℕ) : Type 0 where
  pub at : ℕ
  pub told : TrackedMember
  pub here : slice_get members at ≡ Some told
  pub same : told.object.serial ≡ object

pub member_told : (members : List TrackedMember) (object : ℕ) → is_in (objects_in members) object ≡ true → Has members object
member_told [] object is = absurd (cc)
member_told (x ∷ xs) object is = by_test (x.object.serial == object) refl is (member_told xs object)
  where
    by_test : (b : Bool) → (x.object.serial == object) ≡ b → (b || is_in (objects_in xs) object) ≡ true → (is_in (objects_in xs) object ≡ true → Has xs object) → Has (x ∷ xs) object
    by_test true same first rest = record { at = 0; told = x; here = refl; same = equal x.object.serial object same }
    by_test false same more rest = let r = rest more in record { at = suc r.at; told = r.told; here = r.here; same = r.same }

pub told_member : (members : List TrackedMember) (k : ℕ) (told : TrackedMember) → slice_get members k ≡ Some told → is_in (objects_in members) told.object.serial ≡ true
told_member [] k told here = absurd (cc)
told_member (x ∷ xs) zero told here =
    let is = some_same x told here in
    let same = eq-eqb x.object.serial told.object.serial (ap (λ (t : TrackedMember). t.object.serial) is) in
    rw same refl
told_member (x ∷ xs) (suc k) told here = either (x.object.serial == told.object.serial) (told_member xs k told here)
  where
    either : (b : Bool) → is_in (objects_in xs) told.object.serial ≡ true → (b || is_in (objects_in xs) told.object.serial) ≡ true
    either true rest = refl
    either false rest = rest

-- an open set with a member of the object
pub record Holds (sets : List OpenSet) (outer inner : ℕ) : Type 0 where
  pub set : OpenSet
  pub stands : Stands sets outer set
  pub has : Has set.members inner

pub has_held : (sets : List OpenSet) (outer inner : ℕ) → HasMember (objects_of sets) outer inner → Holds sets outer inner
has_held sets outer inner holds = by_found (find (has_id outer) sets) refl (ap (λ o. is_in (members_of o) inner) (sym (set_found sets outer)) ∙ holds)
  where
    by_found : (o : Option OpenSet) → find (has_id outer) sets ≡ o → is_in (members_of (option_map set_value o)) inner ≡ true → Holds sets outer inner
    by_found None is none = absurd (cc)
    by_found (Some s) is some = record { set = s; stands = found_stands sets outer s is; has = member_told s.members inner some }

pub held_has : (sets : List OpenSet) → AreOnce (map id_of sets) → (k : ℕ) (s : OpenSet) → slice_get sets k ≡ Some s → (j : ℕ) (told : TrackedMember) → slice_get s.members j ≡ Some told → HasMember (objects_of sets) s.id told.object.serial
held_has sets once k s at j told there = ap (λ o. is_in (members_of o) told.object.serial) (set_at sets once k s at) ∙ told_member s.members j told there

pub set_stands : (sets : List OpenSet) (id : ℕ) → IsSet (objects_of sets) id → (s : OpenSet) × Stands sets id s
set_stands sets id is = by_found (find (has_id id) sets) refl (ap is_some (sym (set_found sets id)) ∙ is)
  where
    by_found : (o : Option OpenSet) → find (has_id id) sets ≡ o → is_some (option_map set_value o) ≡ true → (s : OpenSet) × Stands sets id s
    by_found None none bad = absurd (cc)
    by_found (Some s) found good = (s, found_stands sets id s found)

-- ranked sets have short chains

pub falls_at : (rank : ℕ → ℕ) (sets : List OpenSet) → IsRankedBy rank sets → (outer inner : ℕ) → HasMember (objects_of sets) outer inner → IsHeight (rank outer) × (rank inner < rank outer)
falls_at rank sets ranked outer inner holds =
    let h = has_held sets outer inner holds in
    let r = ranked h.stands.place h.set h.stands.here in
    (subst (λ n. IsHeight (rank n)) h.stands.same r.0, subst (λ n. rank inner < rank n) h.stands.same (subst (λ n. rank n < rank h.set.id) h.has.same (r.1 h.has.at h.has.told h.has.here)))

chain_within : (rank : ℕ → ℕ) (sets : List OpenSet) → IsRankedBy rank sets → (first : ℕ) (rest : List ℕ) → ChainFrom (objects_of sets) first rest → (length rest < rank first) × (rank first ≤ 8)
chain_within rank sets ranked first [] chain =
    let s = set_stands sets first chain in
    let r = subst (λ n. IsHeight (rank n)) s.1.same (ranked s.1.place s.0 s.1.here).0 in
    (r.0, r.1)
chain_within rank sets ranked first (next ∷ rest) chain =
    let f = falls_at rank sets ranked first next chain.0 in
    let less = f.1 in
    let below = (chain_within rank sets ranked next rest chain.1).0 in
    (omega arith, f.0.1)

pub ranked_short : (rank : ℕ → ℕ) (sets : List OpenSet) → IsRankedBy rank sets → HasShortChains (objects_of sets)
ranked_short rank sets ranked first rest chain = let c = chain_within rank sets ranked first rest chain in let less = c.0 in let few = c.1 in omega arith

-- one member more

objects_place : (sets : List OpenSet) (id : ℕ) → place_of (objects_of sets) id ≡ position_or_len (has_id id) sets
objects_place [] id = refl
objects_place (x ∷ xs) id = by_test (x.id == id) (objects_place xs id)
  where
    by_test : (b : Bool) → place_of (objects_of xs) id ≡ position_or_len (has_id id) xs → cond (not b) (1 + place_of (objects_of xs) id) 0 ≡ cond (not b) (1 + position_or_len (has_id id) xs) 0
    by_test true rest = refl
    by_test false rest = ap (λ n. 1 + n) rest

pub objects_added : (sets : List OpenSet) (id place : ℕ) (s : OpenSet) (told : TrackedMember) → place ≡ position_or_len (has_id id) sets → slice_get sets place ≡ Some s → changed (on_set (with_member (member_of told))) (objects_of sets) id ≡ objects_of (set sets place (with_changed (with_pushed told) s))
objects_added sets id place s told is here =
    let change : Object → Object = on_body (on_set (with_member (member_of told))) in
    let where_is : place_of (objects_of sets) id ≡ place = objects_place sets id ∙ sym is in
    let with_members : List Member → Object = λ ms. record { id = s.id; body = body.Set (record { members = ms }) } in
    let value : object_value (with_changed (with_pushed told) s) ≡ on_body (on_set (with_member (member_of told))) (object_value s) = ap with_members (map-append member_of s.members (told ∷ [])) in
    ap (λ k. set_if (objects_of sets) k (option_map change (slice_get (objects_of sets) k))) where_is
    ∙ ap (λ o. set_if (objects_of sets) place (option_map change o)) (get_map object_value sets place s here)
    ∙ ap (λ x. set (objects_of sets) place x) (sym value)
    ∙ sym (map-set object_value sets place (with_changed (with_pushed told) s))
