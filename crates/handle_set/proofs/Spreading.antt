-- A change is told upwards, from sets to the sets that have them as members.
use Rattle.std.proofs.Common.{◌≡◌, ◌⊎◌, ℕ, zero, suc, ◌+◌, ◌<◌, ◌≤◌, ◌-◌, ◌==◌, ◌||◌, ◌&&◌, not, take, add-one, slice_index_or, Bool, true, false, cond, List, [], ◌∷◌, length, map, set, slice_get, Option, Some, None, refl, sym, ap, ◌∙◌, inl, inr, arith, subst, eq-eqb}
use mathlib.Core.Bool.{beq}
use Rattle.std.specs.Global.{Vec}
use Rattle.std.specs.BTreeMap.{BTreeMap}
use Rattle.std.specs.List.{find, list_any, position_or_len}
use Rattle.std.specs.Option.{IfSome, option_map}
use Rattle.std.proofs.lemmas.Bool.{cases_eq, false≢true}
use Rattle.std.proofs.lemmas.List.{map-set}
use Rattle.kernel_values.specs.declared.flags.Events.{Events}
use Rattle.handle_set.specs.declared.records.TrackedMember.{TrackedMember}
use Rattle.handle_set.specs.declared.settle.OpenSet.{OpenSet}
use Rattle.handle_set.specs.Holders.{IsHeld, is_holder}
use Rattle.handle_set.specs.Members.{has_object, map_at, with_events, with_told}
use Rattle.handle_set.specs.Sets.{AreOnce, CanHave, Each, IsExact, IsRanked, IsRankedBy, LeavesFollow, are_of, bare, bare_told, has_id, has_ready, id_of, is_number, is_open, ready_events, ready_in, set_told, settled_in, shape, with_members}
use Rattle.handle_set.specs.Spreading.{AreRight, IsExactBut, IsInReach, IsSpread, event_or, events_in, everyone, is_one}
use Rattle.handle_set.proofs.Places.{get_map, get_other, get_set, get_some, map_at_is, map_each, none_passes, set_same, some_same}
use Rattle.handle_set.proofs.Levels.{all_fixed, equal_ids, flipped, found_open, map_map_same, none_found, now_at, ready_other, same_events, same_ids, same_open, same_ranked, shape_members, told_bare, unequal_rank}
use Rattle.handle_set.proofs.Changing.{found_id, of_told, past, ready_kept}

-- tests

both : (a b : Bool) → (a && b) ≡ true → (a ≡ true) × (b ≡ true)
both true b is = (refl, is)
both false b is = absurd (cc)

and_true : (a b : Bool) → a ≡ true → b ≡ true → (a && b) ≡ true
and_true true b one two = two
and_true false b one two = one

or_right : (a b : Bool) → b ≡ true → (a || b) ≡ true
or_right true b is = refl
or_right false b is = is

or_left : (a b : Bool) → a ≡ true → (a || b) ≡ true
or_left true b is = refl
or_left false b is = absurd (cc)

not_true : (b : Bool) → not b ≡ true → b ≡ false
not_true true is = absurd (cc)
not_true false is = refl

either : (a b c : Bool) → (a || (b && c)) ≡ true → (a ≡ true) ⊎ ((b ≡ true) × (c ≡ true))
either true b c is = inl refl
either false b c is = inr (both b c is)

any_at : {X : Type 0} (p : X → Bool) (xs : List X) → list_any p xs ≡ true → (k : ℕ) × (x : X) × (slice_get xs k ≡ Some x) × (p x ≡ true)
any_at p [] is = absurd (cc)
any_at {X} p (y ∷ ys) is = by_test (p y) refl is (any_at p ys)
  where
    by_test : (b : Bool) → p y ≡ b → (b || list_any p ys) ≡ true → (list_any p ys ≡ true → (k : ℕ) × (x : X) × (slice_get ys k ≡ Some x) × (p x ≡ true)) → (k : ℕ) × (x : X) × (slice_get (y ∷ ys) k ≡ Some x) × (p x ≡ true)
    by_test true here more rest = (0, y, refl, here)
    by_test false here more rest = let r = rest more in (suc r.0, r.1, r.2, r.3)

-- no number stands twice, so a set is found by its number

pub find_once : (sets : List OpenSet) (k : ℕ) (s : OpenSet) → AreOnce (map id_of sets) → slice_get sets k ≡ Some s → find (has_id s.id) sets ≡ Some s
find_once [] k s once here = absurd (cc)
find_once (x ∷ xs) zero s once here =
    let first : find (has_id x.id) (x ∷ xs) ≡ Some x = rw (eq-eqb x.id x.id refl) refl in
    subst (λ (y : OpenSet). find (has_id y.id) (x ∷ xs) ≡ Some y) (some_same x s here) first
find_once (x ∷ xs) (suc k) s once here =
    let other = flipped s.id x.id (none_passes (is_number x.id) (map id_of xs) once.0 k s.id (get_map id_of xs k s here)) in
    ap (λ b. cond b (Some x) (find (has_id s.id) xs)) other ∙ find_once xs k s once.1 here

pub place_once : (sets : List OpenSet) (k : ℕ) (s : OpenSet) → AreOnce (map id_of sets) → slice_get sets k ≡ Some s → position_or_len (has_id s.id) sets ≡ k
place_once [] k s once here = absurd (cc)
place_once (x ∷ xs) zero s once here =
    let first : position_or_len (has_id x.id) (x ∷ xs) ≡ 0 = rw (eq-eqb x.id x.id refl) refl in
    subst (λ (y : OpenSet). position_or_len (has_id y.id) (x ∷ xs) ≡ 0) (some_same x s here) first
place_once (x ∷ xs) (suc k) s once here =
    let other = flipped s.id x.id (none_passes (is_number x.id) (map id_of xs) once.0 k s.id (get_map id_of xs k s here)) in
    let next : 1 + k ≡ suc k = omega arith in
    ap (λ b. cond (not b) (1 + position_or_len (has_id s.id) xs) 0) other ∙ ap (λ n. 1 + n) (place_once xs k s once.1 here) ∙ next

pub only : (sets : List OpenSet) (k place : ℕ) (s t : OpenSet) → AreOnce (map id_of sets) → slice_get sets place ≡ Some s → slice_get sets k ≡ Some t → (k ≡ place → ⊥) → (t.id == s.id) ≡ false
only [] k place s t once here there differs = absurd (cc)
only (x ∷ xs) zero zero s t once here there differs = absurd (differs refl)
only (x ∷ xs) zero (suc place) s t once here there differs =
    let other = flipped s.id x.id (none_passes (is_number x.id) (map id_of xs) once.0 place s.id (get_map id_of xs place s here)) in
    subst (λ (y : OpenSet). (y.id == s.id) ≡ false) (some_same x t there) other
only (x ∷ xs) (suc k) zero s t once here there differs =
    let other = none_passes (is_number x.id) (map id_of xs) once.0 k t.id (get_map id_of xs k t there) in
    subst (λ (y : OpenSet). (t.id == y.id) ≡ false) (some_same x s here) other
only (x ∷ xs) (suc k) (suc place) s t once here there differs = only xs k place s t once.1 here there (λ e. differs (ap suc e))

pub not_found : (sets : List OpenSet) (id : ℕ) → find (has_id id) sets ≡ None → Each sets (λ s. (s.id == id) ≡ false)
not_found [] id none k s here = absurd (cc)
not_found (x ∷ xs) id none k s here = by_test (x.id == id) refl none (not_found xs id) k s here
  where
    by_test : (b : Bool) → (x.id == id) ≡ b → cond b (Some x) (find (has_id id) xs) ≡ None → (find (has_id id) xs ≡ None → Each xs (λ s. (s.id == id) ≡ false)) → Each (x ∷ xs) (λ s. (s.id == id) ≡ false)
    by_test true is some rest j t at = absurd (cc)
    by_test false is less rest zero t at = subst (λ (y : OpenSet). (y.id == id) ≡ false) (some_same x t at) is
    by_test false is less rest (suc j) t at = rest less j t at

pub is_open_at : (sets : List OpenSet) (k : ℕ) (s : OpenSet) → slice_get sets k ≡ Some s → is_open sets s.id ≡ true
is_open_at sets k s here = by_test (is_open sets s.id) refl
  where
    by_test : (b : Bool) → is_open sets s.id ≡ b → b ≡ true
    by_test true is = refl
    by_test false is = absurd (false≢true (sym (none_passes (has_id s.id) sets is k s here) ∙ eq-eqb s.id s.id refl))

-- the sets at an object stay so while members stay

pub same_held : (holders : BTreeMap ℕ (Vec ℕ)) (now was : List OpenSet) → shape now ≡ shape was → IsHeld holders was → IsHeld holders now
same_held holders now was same held = shape_members (λ id t. is_holder holders t.object.serial id ≡ true) (λ id t is. is) (λ id t is. is) now was same held

-- only what has an object as a member is claimed
held_right : (holders : BTreeMap ℕ (Vec ℕ)) (sets : List OpenSet) (claim : ℕ → ℕ → Bool) (right : ℕ → ℕ) → IsHeld holders sets → AreRight (λ id n. claim id n && is_holder holders n id) right sets → AreRight claim right sets
held_right holders sets claim right held rights k s at j told there claimed = rights k s at j told there (and_true _ _ claimed (held k s at j told there))

-- one step after another

pub spread_past : (object : ℕ) (events : Events) (sets : List OpenSet) (id place : ℕ) → place ≡ position_or_len (has_id id) sets → length sets ≤ place → IsSpread (is_one id) object events sets sets
spread_past object events sets id place place_is high = record {
  shape = refl;
  low = λ rank ranked n less. refl;
  right = λ right claim was known more rights k s at j told there claimed. elim (more s.id told.object.serial claimed) [
    | inl w ↦ rights k s at j told there w
    | inr e ↦ absurd (false≢true (sym (not_found sets id (past (λ ms. ms) sets id place place_is high) k s at) ∙ e.1))
  ];
}

pub spread_on : (a b c : ℕ → Bool) (object : ℕ) (events : Events) (before mid now : List OpenSet) → IsRanked before → ((id : ℕ) → c id ≡ true → (a id ≡ true) ⊎ (b id ≡ true)) → IsSpread a object events before mid → IsSpread b object events mid now → IsSpread c object events before now
spread_on a b c object events before mid now ranked cover first next = record {
  shape = next.shape ∙ first.shape;
  low = λ rank is id less. next.low rank (same_ranked rank mid before first.shape is) id less ∙ first.low rank is id less;
  right = λ right claim was known more rights.
      let at_mid : events_in right mid object ≡ events.0 = ap (event_or (right object)) (first.low ranked.0 ranked.1 object (omega arith)) ∙ known in
      next.right right claim (λ id n. was id n || ((n == object) && a id)) at_mid (λ id n claimed. by_more id n was (more id n claimed))
      (first.right right (λ id n. was id n || ((n == object) && a id)) was known (λ id n claimed. either (was id n) (n == object) (a id) claimed) rights);
}
  where
    by_cover : (id n : ℕ) (was : ℕ → ℕ → Bool) → (n == object) ≡ true → (a id ≡ true) ⊎ (b id ≡ true) → ((was id n || ((n == object) && a id)) ≡ true) ⊎ (((n == object) ≡ true) × (b id ≡ true))
    by_cover id n was e (inl here) = inl (or_right _ _ (and_true _ _ e here))
    by_cover id n was e (inr here) = inr (e, here)

    by_more : (id n : ℕ) (was : ℕ → ℕ → Bool) → (was id n ≡ true) ⊎ (((n == object) ≡ true) × (c id ≡ true)) → ((was id n || ((n == object) && a id)) ≡ true) ⊎ (((n == object) ≡ true) × (b id ≡ true))
    by_more id n was (inl w) = inl (or_left _ _ w)
    by_more id n was (inr e) = by_cover id n was e.0 (cover id e.1)

-- where all that have the object were told, everyone was
pub spread_all : (who : ℕ → Bool) (holders : BTreeMap ℕ (Vec ℕ)) (object : ℕ) (events : Events) (before now : List OpenSet) → IsHeld holders before → ((id : ℕ) → is_holder holders object id ≡ true → who id ≡ true) → IsSpread who object events before now → IsSpread everyone object events before now
spread_all who holders object events before now held all spread = record {
  shape = spread.shape;
  low = spread.low;
  right = λ right claim was known more rights.
      held_right holders now claim right (same_held holders now before spread.shape held)
      (spread.right right (λ id n. claim id n && is_holder holders n id) was known (λ id n claimed. by_more id n was (both _ _ claimed).1 (more id n (both _ _ claimed).0)) rights);
}
  where
    by_more : (id n : ℕ) (was : ℕ → ℕ → Bool) → is_holder holders n id ≡ true → (was id n ≡ true) ⊎ (((n == object) ≡ true) × (everyone id ≡ true)) → (was id n ≡ true) ⊎ (((n == object) ≡ true) × (who id ≡ true))
    by_more id n was at (inl w) = inl w
    by_more id n was at (inr e) = inr (e.0, all id (subst (λ m. is_holder holders m id ≡ true) (equal_ids n object e.0) at))

-- one set is told

told_other : (object : ℕ) (events : Events) (told : TrackedMember) → (told.object.serial == object) ≡ false → with_told object events told ≡ told
told_other object events told other = ap (λ b. cond b (with_events events told) told) other

module _ (object : ℕ) (events : Events) (sets : List OpenSet) (place : ℕ) (s : OpenSet) (here : slice_get sets place ≡ Some s) (once : AreOnce (map id_of sets)) where
  one_shape : shape (set sets place (set_told object events s)) ≡ shape sets
  one_shape =
      map-set bare sets place (set_told object events s)
      ∙ ap (λ ms. set (map bare sets) place (with_members ms s)) (map_map_same bare_told (with_told object events) s.members (told_bare object events))
      ∙ set_same (map bare sets) place (bare s) (get_map bare sets place s here)

  one_right : (q : ℕ → Bool) → ((n : ℕ) → q n ≡ true → ready_in (set sets place (set_told object events s)) n ≡ ready_in sets n)
      → (right : ℕ → ℕ) (claim was : ℕ → ℕ → Bool) → events_in right sets object ≡ events.0
      → ((id n : ℕ) → claim id n ≡ true → (was id n ≡ true) ⊎ (((n == object) ≡ true) × ((id == s.id) ≡ true)))
      → AreRight was right sets → AreRight (λ id n. claim id n && q n) right (set sets place (set_told object events s))
  one_right q same right claim was known more rights k t at j told there claimed = by_place (cases_eq k place)
    where
      by_test : (v : TrackedMember) (b : Bool) → (v.object.serial == object) ≡ b → (was s.id v.object.serial ≡ true → v.events.0 ≡ events_in right sets v.object.serial) → (claim s.id (cond b (with_events events v) v).object.serial && q (cond b (with_events events v) v).object.serial) ≡ true → (cond b (with_events events v) v).events.0 ≡ events_in right (set sets place (set_told object events s)) (cond b (with_events events v) v).object.serial
      by_test v true is old claims =
          let c = both (claim s.id v.object.serial) (q v.object.serial) claims in
          sym (ap (event_or (right v.object.serial)) (same v.object.serial c.1) ∙ ap (events_in right sets) (equal_ids v.object.serial object is) ∙ known)
      by_test v false is old claims =
          let c = both (claim s.id v.object.serial) (q v.object.serial) claims in
          elim (more s.id v.object.serial c.0) [
            | inl w ↦ old w ∙ ap (event_or (right v.object.serial)) (sym (same v.object.serial c.1))
            | inr e ↦ absurd (false≢true (sym is ∙ e.0))
          ]

      by_place : (k ≡ place) ⊎ (k ≡ place → ⊥) → told.events.0 ≡ events_in right (set sets place (set_told object events s)) told.object.serial
      by_place (inr other) =
          let old = sym (get_other sets k place (set_told object events s) other) ∙ at in
          let c = both (claim t.id told.object.serial) (q told.object.serial) claimed in
          elim (more t.id told.object.serial c.0) [
            | inl w ↦ rights k t old j told there w ∙ ap (event_or (right told.object.serial)) (sym (same told.object.serial c.1))
            | inr e ↦ absurd (false≢true (sym (only sets k place s t once here old other) ∙ e.1))
          ]
      by_place (inl is) =
          let new = now_at sets place s (set_told object events s) t k here at is in
          let P : OpenSet → Type 0 = λ u. Each u.members (λ v. (claim u.id v.object.serial && q v.object.serial) ≡ true → v.events.0 ≡ events_in right (set sets place (set_told object events s)) v.object.serial) in
          let all : P (set_told object events s) = map_each (with_told object events) (λ v. (claim s.id v.object.serial && q v.object.serial) ≡ true → v.events.0 ≡ events_in right (set sets place (set_told object events s)) v.object.serial) s.members (λ i v in_s. by_test v (v.object.serial == object) refl (rights place s here i v in_s)) in
          subst P new all j told there claimed

  pub one_quiet : has_ready (set_told object events s) ≡ has_ready s → IsSpread (is_one s.id) object events sets (set sets place (set_told object events s))
  one_quiet ready = record {
    shape = one_shape;
    low = λ rank ranked id less. ready_kept sets place s (set_told object events s) id here refl ready;
    right = λ right claim was known more rights k t at j told there claimed.
        one_right (λ n. true) (λ n yes. ready_kept sets place s (set_told object events s) n here refl ready) right claim was known more rights k t at j told there (and_true _ _ claimed refl);
  }

  -- a set that turns has the object as a member
  module _ (turned : has_ready (set_told object events s) ≡ not (has_ready s)) where
    has_it : (j : ℕ) × (t : TrackedMember) × (slice_get s.members j ≡ Some t) × (has_object object t ≡ true)
    has_it = any_at (has_object object) s.members (by_test (list_any (has_object object) s.members) refl)
      where
        differs : (b : Bool) → b ≡ not b → ⊥
        differs true is = false≢true (sym is)
        differs false is = false≢true is

        by_test : (b : Bool) → list_any (has_object object) s.members ≡ b → b ≡ true
        by_test true is = refl
        by_test false is =
            let same = all_fixed (with_told object events) s.members (λ j t there. told_other object events t (none_passes (has_object object) s.members is j t there)) in
            absurd (differs (has_ready s) (sym (ap (λ ms. has_ready (with_members ms s)) same) ∙ turned))

    pub one_higher : (rank : ℕ → ℕ) → IsRankedBy rank sets → rank object < rank s.id
    one_higher rank ranked =
        let f = has_it in
        subst (λ n. rank n < rank s.id) (equal_ids _ _ f.3) ((ranked place s here).1 f.0 f.1 f.2)

    other_of : (n : ℕ) → not (n == s.id) ≡ true → (s.id == n) ≡ false
    other_of n is = flipped n s.id (not_true _ is)

    once_now : AreOnce (map id_of (set sets place (set_told object events s)))
    once_now = subst AreOnce (sym (same_ids (set sets place (set_told object events s)) sets one_shape)) once

    pub one_turned : (ready : Bool) → ready ≡ has_ready (set_told object events s) → (now : List OpenSet) → IsSpread everyone s.id (ready_events ready) (set sets place (set_told object events s)) now → IsSpread (is_one s.id) object events sets now
    one_turned ready is now next = record {
      shape = next.shape ∙ one_shape;
      low = λ rank ranked id less.
          let higher = one_higher rank ranked in
          next.low rank (same_ranked rank (set sets place (set_told object events s)) sets one_shape ranked) id (omega arith)
          ∙ ready_other sets place s (set_told object events s) id here refl (unequal_rank rank id s.id (omega arith));
      right = λ right claim was known more rights.
          next.right right claim (λ id n. claim id n && not (n == s.id)) (own right) (λ id n claimed. by_same id n claim (n == s.id) refl claimed)
          (one_right (λ n. not (n == s.id)) (λ n yes. ready_other sets place s (set_told object events s) n here refl (other_of n yes)) right claim was known more rights);
    }
      where
        own : (right : ℕ → ℕ) → events_in right (set sets place (set_told object events s)) s.id ≡ (ready_events ready).0
        own right =
            ap (λ o. event_or (right s.id) (option_map has_ready o)) (find_once (set sets place (set_told object events s)) place (set_told object events s) once_now (get_set sets place (set_told object events s) s here))
            ∙ ap (λ b. (ready_events b).0) (sym is)

        by_same : (id n : ℕ) (claim : ℕ → ℕ → Bool) (b : Bool) → (n == s.id) ≡ b → claim id n ≡ true → ((claim id n && not b) ≡ true) ⊎ ((b ≡ true) × (everyone id ≡ true))
        by_same id n claim true e claimed = inr (refl, refl)
        by_same id n claim false e claimed = inl (and_true _ _ claimed refl)

-- the same at the place where the code finds the set

unturned : (a b : Bool) → not (beq a b) ≡ false → a ≡ b
unturned true true is = refl
unturned false false is = refl
unturned true false is = absurd (cc)
unturned false true is = absurd (cc)

turned_to : (a b : Bool) → not (beq a b) ≡ true → a ≡ not b
turned_to true true is = absurd (cc)
turned_to false false is = absurd (cc)
turned_to true false is = refl
turned_to false true is = refl

module _ (object : ℕ) (events : Events) (sets : List OpenSet) (id place : ℕ) (place_is : place ≡ position_or_len (has_id id) sets) (within : place < length sets) (once : AreOnce (map id_of sets))
    (new : List OpenSet) (told : new ≡ map_at (set_told object events) place sets) (turned : Bool) (turned_is : IfSome (slice_get sets place) (λ s. turned ≡ not (beq (has_ready (set_told object events s)) (has_ready s)))) where
  abbrev the_set : OpenSet
  the_set = (get_some sets place within).0

  here : slice_get sets place ≡ Some the_set
  here = (get_some sets place within).1

  is_id : the_set.id ≡ id
  is_id = found_id (λ ms. ms) sets id place place_is the_set here

  is_new : new ≡ set sets place (set_told object events the_set)
  is_new = told ∙ map_at_is (set_told object events) sets place the_set here

  turns : turned ≡ not (beq (has_ready (set_told object events the_set)) (has_ready the_set))
  turns = rw here at turned_is

  pub to_quiet : turned ≡ false → IsSpread (is_one id) object events sets new
  to_quiet quiet =
      let spread = one_quiet object events sets place the_set here once (unturned _ _ (sym turns ∙ quiet)) in
      subst (λ n. IsSpread (is_one n) object events sets new) is_id (subst (λ xs. IsSpread (is_one the_set.id) object events sets xs) (sym is_new) spread)

  pub to_shape : shape new ≡ shape sets
  to_shape = ap shape is_new ∙ one_shape object events sets place the_set here once

  module _ (loud : turned ≡ true) where
    turn : has_ready (set_told object events the_set) ≡ not (has_ready the_set)
    turn = turned_to _ _ (sym turns ∙ loud)

    to_higher : (rank : ℕ → ℕ) → IsRankedBy rank sets → rank object < rank the_set.id
    to_higher rank ranked = one_higher object events sets place the_set here once turn rank ranked

    pub to_none : (steps : ℕ) → steps ≡ 0 → IsInReach steps object sets → ⊥
    to_none steps none reach =
        let higher = to_higher reach.0 reach.1 in
        let height = (reach.1 place the_set here).0.1 in
        let far = reach.2 in
        omega (arith, none, higher, height, far)

    pub to_reach : (steps : ℕ) → (steps ≡ 0 → ⊥) → IsInReach steps object sets → IsInReach (steps - 1) id new
    to_reach steps some reach =
        let higher = subst (λ n. reach.0 object < reach.0 n) is_id (to_higher reach.0 reach.1) in
        let far = reach.2 in
        (reach.0, same_ranked reach.0 new sets to_shape reach.1, omega (arith, some, higher, far))

    pub to_turned : (ready : Bool) → IfSome (slice_get new place) (λ s. ready ≡ has_ready s) → (next : Events) → next ≡ ready_events ready → (now : List OpenSet) → IsSpread everyone id next new now → IsSpread (is_one id) object events sets now
    to_turned ready ready_is next next_is now spread =
        let is : ready ≡ has_ready (set_told object events the_set) = rw (is_new, get_set sets place (set_told object events the_set) the_set here) at ready_is in
        let one = subst (λ n. IsSpread everyone n next new now) (sym is_id) spread in
        let two = subst (λ e. IsSpread everyone the_set.id e new now) next_is one in
        let three = subst (λ xs. IsSpread everyone the_set.id (ready_events ready) xs now) is_new two in
        subst (λ n. IsSpread (is_one n) object events sets now) is_id (one_turned object events sets place the_set here once turn ready is now three)

-- the loop over the sets at an object

more_of : (ids : List ℕ) (k n : ℕ) → list_any (is_number n) (take (suc k) ids) ≡ true → (list_any (is_number n) (take k ids) ≡ true) ⊎ (is_one (slice_index_or ids k 0) n ≡ true)
more_of [] k n some = absurd (cc)
more_of (x ∷ xs) zero n some = inr (by_test (x == n) refl some)
  where
    by_test : (b : Bool) → (x == n) ≡ b → (b || false) ≡ true → (n == x) ≡ true
    by_test true is here = eq-eqb n x (sym (equal_ids x n is))
    by_test false is here = absurd (cc)
more_of (x ∷ xs) (suc k) n some = by_test (x == n) some (more_of xs k n)
  where
    by_test : (b : Bool) → (b || list_any (is_number n) (take (suc k) xs)) ≡ true → (list_any (is_number n) (take (suc k) xs) ≡ true → (list_any (is_number n) (take k xs) ≡ true) ⊎ (is_one (slice_index_or xs k 0) n ≡ true)) → ((b || list_any (is_number n) (take k xs)) ≡ true) ⊎ (is_one (slice_index_or xs k 0) n ≡ true)
    by_test true here rest = inl refl
    by_test false here rest = rest here

pub more_at : (ids : List ℕ) (k n : ℕ) → list_any (is_number n) (take (k + 1) ids) ≡ true → (list_any (is_number n) (take k ids) ≡ true) ⊎ (is_one (slice_index_or ids k 0) n ≡ true)
more_at ids k n some = more_of ids k n (ap (λ j. list_any (is_number n) (take j ids)) (sym (add-one k)) ∙ some)

taken : (xs : List ℕ) (k : ℕ) → length xs ≤ k → take k xs ≡ xs
taken [] zero past = refl
taken [] (suc k) past = refl
taken (x ∷ xs) zero past = absurd (omega arith)
taken (x ∷ xs) (suc k) past = ap (λ ys. x ∷ ys) (taken xs k (omega arith))

pub all_at : (ids : List ℕ) (k n : ℕ) → length ids ≤ k → list_any (is_number n) ids ≡ true → list_any (is_number n) (take k ids) ≡ true
all_at ids k n past is = ap (list_any (is_number n)) (taken ids k past) ∙ is

-- what has come of it when all is told

module _ (object : ℕ) (events : Events) (sets now : List OpenSet) (spread : IsSpread everyone object events sets now) (can : CanHave sets object events) where
  own : (right : ℕ → ℕ) → right object ≡ events.0 → events_in right sets object ≡ events.0
  own right leaf = by_ready (ready_in sets object) can
    where
      by_ready : (o : Option Bool) → are_of o events → event_or (right object) o ≡ events.0
      by_ready None has = leaf
      by_ready (Some ready) has = ap (λ (e : Events). e.0) (sym has)

  -- what is claimed is right but for the object
  rest_of : (p : ℕ → Bool) (id n : ℕ) → p n ≡ true → ((p n && not (n == object)) ≡ true) ⊎ (((n == object) ≡ true) × (everyone id ≡ true))
  rest_of p id n is = by_test (n == object)
    where
      by_test : (b : Bool) → ((p n && not b) ≡ true) ⊎ ((b ≡ true) × (everyone id ≡ true))
      by_test true = inr (refl, refl)
      by_test false = inl (and_true _ _ is refl)

  pub spread_exact : IsExactBut object sets → IsExact now
  spread_exact but k s at = all_fixed (settled_in now) s.members (λ j t there. of_told (ready_in now t.object.serial) t (by_open t (is_open now t.object.serial) refl (rights k s at j t there)))
    where
      was : AreRight (λ id n. is_open sets n && not (n == object)) (λ n. events.0) sets
      was k s at j t there claimed =
          let c = both (is_open sets t.object.serial) (not (t.object.serial == object)) claimed in
          let f = found_open sets t.object.serial c.0 in
          let ready = ap (option_map has_ready) f.4 in
          let told : are_of (Some (has_ready f.1)) t.events = subst (λ r. are_of r t.events) ready (but k s at j t there (not_true _ c.1)) in
          ap (λ (e : Events). e.0) told ∙ ap (event_or events.0) (sym ready)

      rights : AreRight (λ id n. is_open sets n) (λ n. events.0) now
      rights = spread.right (λ n. events.0) (λ id n. is_open sets n) (λ id n. is_open sets n && not (n == object)) (own (λ n. events.0) refl) (λ id n claimed. rest_of (is_open sets) id n claimed) was

      by_ready : (t : TrackedMember) (o : Option Bool) → t.events.0 ≡ event_or events.0 o → are_of o t.events
      by_ready t None is = tt
      by_ready t (Some ready) is = same_events t.events (ready_events ready) is

      by_open : (t : TrackedMember) (b : Bool) → is_open now t.object.serial ≡ b → (is_open sets t.object.serial ≡ true → t.events.0 ≡ events_in (λ n. events.0) now t.object.serial) → are_of (ready_in now t.object.serial) t.events
      by_open t true is right = by_ready t (ready_in now t.object.serial) (right (sym (same_open now sets t.object.serial spread.shape) ∙ is))
      by_open t false is right = subst (λ o. are_of (option_map has_ready o) t.events) (sym (none_found now t.object.serial is)) tt

  pub spread_leaves : (f : ℕ → ℕ)
      → Each sets (λ s. Each s.members (λ t. (t.object.serial == object) ≡ false → is_open sets t.object.serial ≡ false → t.events.0 ≡ f t.object.serial))
      → Each sets (λ s. Each s.members (λ t. (t.object.serial == object) ≡ true → is_open sets t.object.serial ≡ false → events.0 ≡ f t.object.serial))
      → LeavesFollow f now
  spread_leaves f others mine k s at j t there closed =
      let shut : is_open sets t.object.serial ≡ false = sym (same_open now sets t.object.serial spread.shape) ∙ closed in
      rights k s at j t there (ap not shut)
      ∙ ap (λ o. event_or (right t.object.serial) (option_map has_ready o)) (none_found now t.object.serial closed)
      ∙ by_test t (t.object.serial == object) (λ is. shape_members (λ id u. (u.object.serial == object) ≡ true → is_open sets u.object.serial ≡ false → events.0 ≡ f u.object.serial) (λ id u here. here) (λ id u here. here) now sets spread.shape mine k s at j t there is shut) refl
    where
      right : ℕ → ℕ
      right n = cond (n == object) events.0 (f n)

      was : AreRight (λ id n. not (is_open sets n) && not (n == object)) right sets
      was k s at j t there claimed =
          let c = both (not (is_open sets t.object.serial)) (not (t.object.serial == object)) claimed in
          let shut = not_true (is_open sets t.object.serial) c.0 in
          let other = not_true (t.object.serial == object) c.1 in
          others k s at j t there other shut
          ∙ sym (ap (λ o. event_or (right t.object.serial) (option_map has_ready o)) (none_found sets t.object.serial shut) ∙ ap (λ b. cond b events.0 (f t.object.serial)) other)

      rights : AreRight (λ id n. not (is_open sets n)) right now
      rights = spread.right right (λ id n. not (is_open sets n)) (λ id n. not (is_open sets n) && not (n == object)) (own right (rw (eq-eqb object object refl) refl)) (λ id n claimed. rest_of (λ m. not (is_open sets m)) id n claimed) was

      by_test : (t : TrackedMember) (b : Bool) → ((t.object.serial == object) ≡ true → events.0 ≡ f t.object.serial) → (t.object.serial == object) ≡ b → cond b events.0 (f t.object.serial) ≡ f t.object.serial
      by_test t true own is = own is
      by_test t false own is = refl
