-- Sets in sets: what is told of members, and what the shape of the sets fixes.
use Rattle.std.proofs.Common.{◌≡◌, ◌⊎◌, ℕ, zero, suc, ◌<◌, ◌≤◌, ◌==◌, ◌||◌, not, bit_and, Bool, true, false, cond, List, [], ◌∷◌, map, set, slice_get, Some, None, refl, sym, ap, ◌∙◌, inl, inr, arith, subst}
use Rattle.std.specs.List.{find, list_any}
use Rattle.std.specs.Option.{option_map}
use Rattle.std.proofs.lemmas.Bool.{cases_eq}
use Rattle.std.proofs.lemmas.Bool.Decides.{nat_tests}
use Rattle.kernel_values.specs.declared.flags.Events.{Events}
use Rattle.handle_set.specs.declared.records.TrackedMember.{TrackedMember}
use Rattle.handle_set.specs.declared.settle.OpenSet.{OpenSet}
use Rattle.handle_set.specs.Members.{with_events, with_told, is_ready}
use Rattle.handle_set.specs.Sets.{has_id, has_ready, ready_in, ready_events, settled_told, settled_in, with_members, Each, IsExact, IsRankedIn, IsRankedBy, IsRanked, is_open, bare_told, bare, shape, LeavesFollow, Follows, is_ready_by, IsOfSets, set_told, OnlyChanges, IsHeight, IsKnown, id_of}
use Rattle.handle_set.proofs.Places.{get_set, map_each, some_same, get_map, any_same}

-- a set that keeps its number says nothing of others

find_other : (sets : List OpenSet) (k : ℕ) (s new : OpenSet) (id : ℕ) → slice_get sets k ≡ Some s → new.id ≡ s.id → (s.id == id) ≡ false → find (has_id id) (set sets k new) ≡ find (has_id id) sets
find_other [] k s new id here same other = refl
find_other (x ∷ xs) zero s new id here same other =
    let is : x ≡ s = cc in
    let old : (x.id == id) ≡ false = rw is other in
    let now : (new.id == id) ≡ false = rw same other in
    rw (old, now) refl
find_other (x ∷ xs) (suc k) s new id here same other = rw (find_other xs k s new id here same other) refl

pub ready_other : (sets : List OpenSet) (k : ℕ) (s new : OpenSet) (id : ℕ) → slice_get sets k ≡ Some s → new.id ≡ s.id → (s.id == id) ≡ false → ready_in (set sets k new) id ≡ ready_in sets id
ready_other sets k s new id here same other = ap (option_map has_ready) (find_other sets k s new id here same other)

unequal : (a b : ℕ) → a < b → (b == a) ≡ false
unequal a b less = grind (arith, nat_tests)

pub unequal_rank : (rank : ℕ → ℕ) (a b : ℕ) → rank a < rank b → (b == a) ≡ false
unequal_rank rank a b less = by_case (cases_eq b a)
  where
    by_case : (b ≡ a) ⊎ (b ≡ a → ⊥) → (b == a) ≡ false
    by_case (inl same) = let equal = ap rank same in absurd (omega arith)
    by_case (inr other) = grind (arith, nat_tests)

-- the set that is now at the place
pub now_at : (sets : List OpenSet) (place : ℕ) (s new t : OpenSet) (k : ℕ) → slice_get sets place ≡ Some s → slice_get (set sets place new) k ≡ Some t → k ≡ place → new ≡ t
now_at sets place s new t k here at same =
    let P : ℕ → Type 0 = λ j. slice_get (set sets place new) j ≡ Some t in
    let there = subst P same at in
    some_same new t (sym (get_set sets place new s here) ∙ there)

pub flipped : (a b : ℕ) → (a == b) ≡ false → (b == a) ≡ false
flipped a b is = grind (arith, nat_tests)

pub open_kept : (sets : List OpenSet) (k : ℕ) (s new : OpenSet) (id : ℕ) → slice_get sets k ≡ Some s → new.id ≡ s.id → is_open (set sets k new) id ≡ is_open sets id
open_kept [] k s new id here same = refl
open_kept (x ∷ xs) zero s new id here same =
    let is = some_same x s here in
    rw (is, same) refl
open_kept (x ∷ xs) (suc k) s new id here same = ap (λ b. (x.id == id) || b) (open_kept xs k s new id here same)

pub none_found : (sets : List OpenSet) (id : ℕ) → is_open sets id ≡ false → find (has_id id) sets ≡ None
none_found [] id none = refl
none_found (x ∷ xs) id none = by_test (x.id == id) none (none_found xs id)
  where
    by_test : (b : Bool) → (b || is_open xs id) ≡ false → (is_open xs id ≡ false → find (has_id id) xs ≡ None) → cond b (Some x) (find (has_id id) xs) ≡ None
    by_test true some rest = absurd (cc)
    by_test false less rest = rest less

-- exact sets follow the events of what is in them

pub get_mapped : (f : TrackedMember → TrackedMember) (xs : List TrackedMember) (k : ℕ) (x : TrackedMember) → slice_get xs k ≡ Some x → map f xs ≡ xs → f x ≡ x
get_mapped f xs k x here same = some_same (f x) x (sym (get_map f xs k x here) ∙ ap (λ ys. slice_get ys k) same ∙ here)

pub equal_ids : (a b : ℕ) → (a == b) ≡ true → a ≡ b
equal_ids a b is = grind (arith, nat_tests)

-- an open set by its number, with its place
pub found_open : (sets : List OpenSet) (id : ℕ) → is_open sets id ≡ true → (k : ℕ) × (t : OpenSet) × (slice_get sets k ≡ Some t) × (t.id ≡ id) × (find (has_id id) sets ≡ Some t)
found_open [] id some = absurd (cc)
found_open (x ∷ xs) id some = by_test (x.id == id) refl some (found_open xs id)
  where
    by_test : (b : Bool) → (x.id == id) ≡ b → (b || is_open xs id) ≡ true → (is_open xs id ≡ true → (k : ℕ) × (t : OpenSet) × (slice_get xs k ≡ Some t) × (t.id ≡ id) × (find (has_id id) xs ≡ Some t)) → (k : ℕ) × (t : OpenSet) × (slice_get (x ∷ xs) k ≡ Some t) × (t.id ≡ id) × (cond b (Some x) (find (has_id id) xs) ≡ Some t)
    by_test true is more rest = (0, x, refl, equal_ids x.id id is, refl)
    by_test false is more rest = let r = rest more in (suc r.0, r.1, r.2, r.3, r.4)

follow_to : (rank : ℕ → ℕ) (sets : List OpenSet) (events : ℕ → ℕ) → IsRankedBy rank sets → IsExact sets → LeavesFollow events sets → IsOfSets events sets → (level k : ℕ) (s : OpenSet) → slice_get sets k ≡ Some s → rank s.id ≤ level → Each s.members (λ told. told.events.0 ≡ events told.object.serial)
follow_to rank sets events ranked exact leaves of_sets zero k s at low j told there = let less = (ranked k s at).1 j told there in absurd (omega arith)
follow_to rank sets events ranked exact leaves of_sets (suc level) k s at low j told there = by_open (is_open sets told.object.serial) refl (follow_to rank sets events ranked exact leaves of_sets level)
  where
    by_open : (b : Bool) → is_open sets told.object.serial ≡ b → ((i : ℕ) (t : OpenSet) → slice_get sets i ≡ Some t → rank t.id ≤ level → Each t.members (λ told. told.events.0 ≡ events told.object.serial)) → told.events.0 ≡ events told.object.serial
    by_open false closed below = leaves k s at j told there closed
    by_open true opens below =
        let f = found_open sets told.object.serial opens in
        let inner = f.1 in
        let less = (ranked k s at).1 j told there in
        let id = ap rank f.3 in
        let low : rank inner.id ≤ level = omega arith in
        let members = below f.0 inner f.2 low in
        let same = any_same is_ready (is_ready_by events) inner.members (λ i t in_it. ap (λ (n : ℕ). not (bit_and n t.mask.0 == 0)) (members i t in_it)) in
        let settled = get_mapped (settled_in sets) s.members j told there (exact k s at) in
        let is : settled_in sets told ≡ with_events (ready_events (list_any is_ready inner.members)) told = ap (λ found. settled_told (option_map has_ready found) told) f.4 in
        let now : told.events.0 ≡ (ready_events (list_any is_ready inner.members)).0 = ap (λ (t : TrackedMember). t.events.0) (sym settled ∙ is) in
        now ∙ ap (λ b. (ready_events b).0) same ∙ sym (of_sets f.0 inner f.2) ∙ ap events f.3

pub all_follow : (sets : List OpenSet) (events : ℕ → ℕ) → IsRanked sets → IsExact sets → LeavesFollow events sets → IsOfSets events sets → Follows events sets
all_follow sets events ranked exact leaves of_sets k s at = follow_to ranked.0 sets events ranked.1 exact leaves of_sets (ranked.0 s.id) k s at (omega arith)

-- the members of an object are told

pub told_object : (object : ℕ) (events : Events) (told : TrackedMember) → (with_told object events told).object ≡ told.object
told_object object events told = by_test (told.object.serial == object)
  where
    by_test : (b : Bool) → (cond b (with_events events told) told).object ≡ told.object
    by_test true = refl
    by_test false = refl

pub told_bare : (object : ℕ) (events : Events) (told : TrackedMember) → bare_told (with_told object events told) ≡ bare_told told
told_bare object events told = by_test (told.object.serial == object)
  where
    by_test : (b : Bool) → bare_told (cond b (with_events events told) told) ≡ bare_told told
    by_test true = refl
    by_test false = refl

pub map_map_same : {X Y : Type 0} (g : X → Y) (f : X → X) (xs : List X) → ((x : X) → g (f x) ≡ g x) → map g (map f xs) ≡ map g xs
map_map_same g f [] same = refl
map_map_same g f (x ∷ xs) same = rw (same x, map_map_same g f xs same) refl

pub told_shape : (object : ℕ) (events : Events) (sets : List OpenSet) → shape (map (set_told object events) sets) ≡ shape sets
told_shape object events sets = map_map_same bare (set_told object events) sets (λ s. ap (λ ms. with_members ms s) (map_map_same bare_told (with_told object events) s.members (told_bare object events)))

pub told_ranked : (object : ℕ) (events : Events) (rank : ℕ → ℕ) (sets : List OpenSet) → IsRankedBy rank sets → IsRankedBy rank (map (set_told object events) sets)
told_ranked object events rank sets ranked = map_each (set_told object events) (IsRankedIn rank) sets (λ k s at.
    ((ranked k s at).0, map_each (with_told object events) (λ told. rank told.object.serial < rank s.id) s.members (λ j told there. rw (told_object object events told) ((ranked k s at).1 j told there))))

any_mapped : {X : Type 0} (p : X → Bool) (f : X → X) (xs : List X) → ((x : X) → p (f x) ≡ p x) → list_any p (map f xs) ≡ list_any p xs
any_mapped p f [] same = refl
any_mapped p f (x ∷ xs) same = rw (same x, any_mapped p f xs same) refl

pub told_open : (object : ℕ) (events : Events) (sets : List OpenSet) (id : ℕ) → is_open (map (set_told object events) sets) id ≡ is_open sets id
told_open object events sets id = any_mapped (has_id id) (set_told object events) sets (λ s. refl)

pub told_leaves : (object : ℕ) (events : Events) (sets : List OpenSet) (before now : ℕ → ℕ) → LeavesFollow before sets → now object ≡ events.0 → OnlyChanges object before now sets → LeavesFollow now (map (set_told object events) sets)
told_leaves object events sets before now follow here only = map_each (set_told object events) (λ s. Each s.members (λ told. is_open (map (set_told object events) sets) told.object.serial ≡ false → told.events.0 ≡ now told.object.serial)) sets (λ k s at.
    map_each (with_told object events) (λ told. is_open (map (set_told object events) sets) told.object.serial ≡ false → told.events.0 ≡ now told.object.serial) s.members (λ j told there closed.
    let same = told_object object events told in
    let shut : is_open sets told.object.serial ≡ false = sym (told_open object events sets told.object.serial) ∙ ap (λ o. is_open (map (set_told object events) sets) o.serial) (sym same) ∙ closed in
    by_test told (told.object.serial == object) refl shut (follow k s at j told there shut)))
  where
    by_test : (told : TrackedMember) (b : Bool) → (told.object.serial == object) ≡ b → is_open sets told.object.serial ≡ false → told.events.0 ≡ before told.object.serial → (cond b (with_events events told) told).events.0 ≡ now (cond b (with_events events told) told).object.serial
    by_test told true is shut was = sym here ∙ ap now (sym (equal_ids told.object.serial object is))
    by_test told false is shut was = was ∙ sym (only told.object.serial is shut)

pub same_events : (a b : Events) → a.0 ≡ b.0 → a ≡ b
same_events a b same = let make : ℕ → Events = λ n. record { 0 = n } in ap make same

-- what the shape of the sets says of them

ids_of_shape : (sets : List OpenSet) → map id_of (shape sets) ≡ map id_of sets
ids_of_shape [] = refl
ids_of_shape (x ∷ xs) = ap (λ ns. x.id ∷ ns) (ids_of_shape xs)

open_of_shape : (sets : List OpenSet) (id : ℕ) → is_open (shape sets) id ≡ is_open sets id
open_of_shape [] id = refl
open_of_shape (x ∷ xs) id = ap (λ b. (x.id == id) || b) (open_of_shape xs id)

pub same_ids : (now was : List OpenSet) → shape now ≡ shape was → map id_of now ≡ map id_of was
same_ids now was same = sym (ids_of_shape now) ∙ ap (λ sets. map id_of sets) same ∙ ids_of_shape was

pub same_open : (now was : List OpenSet) (id : ℕ) → shape now ≡ shape was → is_open now id ≡ is_open was id
same_open now was id same = sym (open_of_shape now id) ∙ ap (λ sets. is_open sets id) same ∙ open_of_shape was id

-- a fact of each member that its told events have no part in
pub shape_members : (P : ℕ → TrackedMember → Type 0) → ((id : ℕ) (told : TrackedMember) → P id (bare_told told) → P id told) → ((id : ℕ) (told : TrackedMember) → P id told → P id (bare_told told))
    → (now was : List OpenSet) → shape now ≡ shape was → Each was (λ set. Each set.members (P set.id)) → Each now (λ set. Each set.members (P set.id))
shape_members P up down now was same each k s at j told there =
    let low : Each (shape was) (λ set. Each set.members (P set.id)) = map_each bare (λ set. Each set.members (P set.id)) was (λ i t at_i. map_each bare_told (P t.id) t.members (λ n u in_u. down t.id u (each i t at_i n u in_u))) in
    let over : Each (shape now) (λ set. Each set.members (P set.id)) = subst (λ sets. Each sets (λ set. Each set.members (P set.id))) (sym same) low in
    up s.id told (over k (bare s) (get_map bare now k s at) j (bare_told told) (get_map bare_told s.members j told there))

pub same_known : (now was : List OpenSet) → shape now ≡ shape was → IsKnown was → IsKnown now
same_known now was same known k s at j told there =
    shape_members (λ id t. t.inner ≡ is_open was t.object.serial) (λ id t is. is) (λ id t is. is) now was same known k s at j told there
    ∙ sym (same_open now was told.object.serial same)

pub same_ranked : (rank : ℕ → ℕ) (now was : List OpenSet) → shape now ≡ shape was → IsRankedBy rank was → IsRankedBy rank now
same_ranked rank now was same ranked k s at =
    (heights k s at, shape_members (λ id t. rank t.object.serial < rank id) (λ id t is. is) (λ id t is. is) now was same (λ i t at_i. (ranked i t at_i).1) k s at)
  where
    low : Each (shape was) (λ set. IsHeight (rank set.id))
    low = map_each bare (λ set. IsHeight (rank set.id)) was (λ i t at_i. (ranked i t at_i).0)

    heights : Each now (λ set. IsHeight (rank set.id))
    heights i t at_i = subst (λ sets. Each sets (λ set. IsHeight (rank set.id))) (sym same) low i (bare t) (get_map bare now i t at_i)

pub all_fixed : (f : TrackedMember → TrackedMember) (xs : List TrackedMember) → Each xs (λ x. f x ≡ x) → map f xs ≡ xs
all_fixed f [] each = refl
all_fixed f (x ∷ xs) each = rw (each zero x refl, all_fixed f xs (λ k y at. each (suc k) y at)) refl
