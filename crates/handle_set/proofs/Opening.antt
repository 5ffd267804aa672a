-- Sets are opened and closed.
use Rattle.std.proofs.Common.{◌≡◌, ℕ, zero, suc, ◌+◌, ◌<◌, ◌≤◌, ◌==◌, ◌||◌, Bool, true, false, not, cond, List, [], ◌∷◌, ◌++◌, length, map, slice_get, Some, refl, sym, ap, ◌∙◌, arith, subst, eq-eqb}
use Rattle.std.specs.Global.{Vec}
use Rattle.std.specs.BTreeMap.{BTreeMap}
use Rattle.std.specs.Option.{option_map}
use Rattle.std.specs.List.{find, filter, list_any, position_or_len, remove}
use Rattle.std.proofs.lemmas.Bool.Decides.{nat_tests}
use Rattle.std.proofs.lemmas.List.{map-append}
use Rattle.handle_set.specs.declared.settle.OpenSet.{OpenSet}
use Rattle.handle_set.specs.Holders.{IsHeld, is_holder}
use Rattle.handle_set.specs.Members.{has_object}
use Rattle.handle_set.specs.Sets.{has_id, has_member, has_ready, is_member, is_number, id_of, is_open, is_other_set, ready_in, settled_told, settled_in, empty_set, Each, IsExactIn, IsRankedIn, IsRankedBy, IsSettled, AreOnce}
use Rattle.handle_set.proofs.Places.{none_passes, some_same}
use Rattle.handle_set.proofs.Levels.{all_fixed, get_mapped}

pub none_settled : IsSettled []
none_settled = record { once = tt; ranked = (λ id. 0, λ k s at. absurd (none_at s k at)); known = λ k s at. absurd (none_at s k at); exact = λ k s at. absurd (none_at s k at) }
  where
    none_at : (s : OpenSet) (k : ℕ) → slice_get [] k ≡ Some s → ⊥
    none_at s k at = cc

each_more : (P : OpenSet → Type 0) (xs : List OpenSet) (t : OpenSet) → Each xs P → P t → Each (xs ++ t ∷ []) P
each_more P [] t each one zero x here = subst P (some_same t x here) one
each_more P [] t each one (suc k) x here = absurd (cc)
each_more P (y ∷ ys) t each one zero x here = subst P (some_same y x here) (each zero y refl)
each_more P (y ∷ ys) t each one (suc k) x here = each_more P ys t (λ j z at. each (suc j) z at) one k x here

each_left : (q : OpenSet → Bool) (P : OpenSet → Type 0) (xs : List OpenSet) → Each xs P → Each (filter q xs) P
each_left q P [] each k x here = absurd (cc)
each_left q P (y ∷ ys) each k x here = by_test (q y) (each_left q P ys (λ j z at. each (suc j) z at)) k x here
  where
    by_test : (b : Bool) → Each (filter q ys) P → Each (cond b (y ∷ filter q ys) (filter q ys)) P
    by_test true rest zero x here = subst P (some_same y x here) (each zero y refl)
    by_test true rest (suc k) x here = rest k x here
    by_test false rest k x here = rest k x here

flip : (a b : ℕ) → (a == b) ≡ false → (b == a) ≡ false
flip a b is = grind (arith, nat_tests)

-- an object that is a member of none
alone : (sets : List OpenSet) (id : ℕ) → is_member sets id ≡ false → Each sets (λ s. Each s.members (λ told. (told.object.serial == id) ≡ false))
alone sets id none k s at j told there = none_passes (has_object id) s.members (none_passes (has_member id) sets none k s at) j told there

-- a set is opened

once_more : (ns : List ℕ) (n : ℕ) → AreOnce ns → list_any (is_number n) ns ≡ false → AreOnce (ns ++ n ∷ [])
once_more [] n once new = (refl, tt)
once_more (m ∷ ms) n once new = by_test (m == n) refl new (once_more ms n once.1) (any_more ms once.0)
  where
    any_more : (ks : List ℕ) → list_any (is_number m) ks ≡ false → (n == m) ≡ false → list_any (is_number m) (ks ++ n ∷ []) ≡ false
    any_more [] none other = rw other refl
    any_more (k ∷ ks) none other = either (k == m) none (λ less. any_more ks less other)
      where
        either : (b : Bool) → (b || list_any (is_number m) ks) ≡ false → (list_any (is_number m) ks ≡ false → list_any (is_number m) (ks ++ n ∷ []) ≡ false) → (b || list_any (is_number m) (ks ++ n ∷ [])) ≡ false
        either true some rest = absurd (cc)
        either false less rest = rest less

    by_test : (b : Bool) → (m == n) ≡ b → (b || list_any (is_number n) ms) ≡ false → (list_any (is_number n) ms ≡ false → AreOnce (ms ++ n ∷ [])) → ((n == m) ≡ false → list_any (is_number m) (ms ++ n ∷ []) ≡ false) → AreOnce ((m ∷ ms) ++ n ∷ [])
    by_test true is some rest last = absurd (cc)
    by_test false is less rest last = (last (flip m n is), rest less)

open_ids : (sets : List OpenSet) (id : ℕ) → is_open sets id ≡ list_any (is_number id) (map id_of sets)
open_ids [] id = refl
open_ids (x ∷ xs) id = ap (λ b. (x.id == id) || b) (open_ids xs id)

open_more : (sets : List OpenSet) (new id : ℕ) → (id == new) ≡ false → is_open (sets ++ empty_set new ∷ []) id ≡ is_open sets id
open_more [] new id other = rw (flip id new other) refl
open_more (x ∷ xs) new id other = ap (λ b. (x.id == id) || b) (open_more xs new id other)

ready_more : (sets : List OpenSet) (new id : ℕ) → (id == new) ≡ false → ready_in (sets ++ empty_set new ∷ []) id ≡ ready_in sets id
ready_more [] new id other = rw (flip id new other) refl
ready_more (x ∷ xs) new id other = by_test (x.id == id) (ready_more xs new id other)
  where
    by_test : (b : Bool) → ready_in (xs ++ empty_set new ∷ []) id ≡ ready_in xs id → option_map has_ready (cond b (Some x) (find (has_id id) (xs ++ empty_set new ∷ []))) ≡ option_map has_ready (cond b (Some x) (find (has_id id) xs))
    by_test true rest = refl
    by_test false rest = rest

-- a rank for the new set, which is a member of none
module _ (sets : List OpenSet) (new : ℕ) (settled : IsSettled sets) (closed : is_open sets new ≡ false) (none : is_member sets new ≡ false) where
  abbrev ranks : ℕ → ℕ
  ranks id = cond (id == new) 1 (settled.ranked.0 id)

  rank_other : (id : ℕ) → (id == new) ≡ false → ranks id ≡ settled.ranked.0 id
  rank_other id other = rw other refl

  rank_new : ranks new ≡ 1
  rank_new = rw (eq-eqb new new refl) refl

  ids_other : Each sets (λ s. (s.id == new) ≡ false)
  ids_other k s at = none_passes (has_id new) sets closed k s at

  old_ranked : IsRankedBy ranks sets
  old_ranked k s at =
      let was = settled.ranked.1 k s at in
      let same = rank_other s.id (ids_other k s at) in
      (rw same was.0, λ j told there. rw (same, rank_other told.object.serial (alone sets new none k s at j told there)) (was.1 j told there))

  new_ranked : IsRankedIn ranks (empty_set new)
  new_ranked = (rw rank_new (omega arith, omega arith), λ j told there. absurd (cc))

  pub opened_settled : IsSettled (sets ++ empty_set new ∷ [])
  opened_settled = record {
    once = rw (map-append id_of sets (empty_set new ∷ [])) (once_more (map id_of sets) new settled.once (sym (open_ids sets new) ∙ closed));
    ranked = (ranks, each_more (IsRankedIn ranks) sets (empty_set new) old_ranked new_ranked);
    known = each_more (λ s. Each s.members (λ told. told.inner ≡ is_open (sets ++ empty_set new ∷ []) told.object.serial)) sets (empty_set new) (λ k s at j told there. settled.known k s at j told there ∙ sym (open_more sets new told.object.serial (alone sets new none k s at j told there))) (λ j told there. absurd (cc));
    exact = each_more (IsExactIn (sets ++ empty_set new ∷ [])) sets (empty_set new) (λ k s at. all_fixed (settled_in (sets ++ empty_set new ∷ [])) s.members (λ j told there.
        ap (λ ready. settled_told ready told) (ready_more sets new told.object.serial (alone sets new none k s at j told there)) ∙ get_mapped (settled_in sets) s.members j told there (settled.exact k s at))) refl;
  }

pub opened_held : (holders : BTreeMap ℕ (Vec ℕ)) (sets : List OpenSet) (new : ℕ) → IsHeld holders sets → IsHeld holders (sets ++ empty_set new ∷ [])
opened_held holders sets new held = each_more (λ s. Each s.members (λ told. is_holder holders told.object.serial s.id ≡ true)) sets (empty_set new) held (λ j told there. absurd (cc))

-- a set is closed

once_left : (gone : ℕ) (sets : List OpenSet) → AreOnce (map id_of sets) → AreOnce (map id_of (filter (is_other_set gone) sets))
once_left gone [] once = tt
once_left gone (x ∷ xs) once = by_test (x.id == gone) (fewer xs once.0) (once_left gone xs once.1)
  where
    fewer : (ys : List OpenSet) → list_any (is_number x.id) (map id_of ys) ≡ false → list_any (is_number x.id) (map id_of (filter (is_other_set gone) ys)) ≡ false
    fewer [] none = refl
    fewer (y ∷ ys) none = either (y.id == gone) (y.id == x.id) none refl (fewer ys)
      where
        either : (b c : Bool) → (c || list_any (is_number x.id) (map id_of ys)) ≡ false → (y.id == x.id) ≡ c → (list_any (is_number x.id) (map id_of ys) ≡ false → list_any (is_number x.id) (map id_of (filter (is_other_set gone) ys)) ≡ false) → list_any (is_number x.id) (map id_of (cond (not b) (y ∷ filter (is_other_set gone) ys) (filter (is_other_set gone) ys))) ≡ false
        either b true some is rest = absurd (cc)
        either true false less is rest = rest less
        either false false less is rest = rw is (rest less)

    by_test : (b : Bool) → list_any (is_number x.id) (map id_of (filter (is_other_set gone) xs)) ≡ false → AreOnce (map id_of (filter (is_other_set gone) xs)) → AreOnce (map id_of (cond (not b) (x ∷ filter (is_other_set gone) xs) (filter (is_other_set gone) xs)))
    by_test true absent rest = rest
    by_test false absent rest = (absent, rest)

open_left : (gone id : ℕ) (sets : List OpenSet) → (id == gone) ≡ false → is_open (filter (is_other_set gone) sets) id ≡ is_open sets id
open_left gone id [] other = refl
open_left gone id (x ∷ xs) other = by_test (x.id == gone) (x.id == id) refl refl (open_left gone id xs other)
  where
    by_test : (b c : Bool) → (x.id == gone) ≡ b → (x.id == id) ≡ c → is_open (filter (is_other_set gone) xs) id ≡ is_open xs id → is_open (cond (not b) (x ∷ filter (is_other_set gone) xs) (filter (is_other_set gone) xs)) id ≡ (c || is_open xs id)
    by_test true true is same rest = absurd (both x.id gone id is same other)
      where
        both : (a b c : ℕ) → (a == b) ≡ true → (a == c) ≡ true → (c == b) ≡ false → ⊥
        both a b c one two three = grind (arith, nat_tests)
    by_test true false is same rest = rest
    by_test false true is same rest = rw same refl
    by_test false false is same rest = rw same rest

ready_left : (gone id : ℕ) (sets : List OpenSet) → (id == gone) ≡ false → ready_in (filter (is_other_set gone) sets) id ≡ ready_in sets id
ready_left gone id [] other = refl
ready_left gone id (x ∷ xs) other = by_test (x.id == gone) (x.id == id) refl refl (ready_left gone id xs other)
  where
    by_test : (b c : Bool) → (x.id == gone) ≡ b → (x.id == id) ≡ c → ready_in (filter (is_other_set gone) xs) id ≡ ready_in xs id → ready_in (cond (not b) (x ∷ filter (is_other_set gone) xs) (filter (is_other_set gone) xs)) id ≡ option_map has_ready (cond c (Some x) (find (has_id id) xs))
    by_test true true is same rest = absurd (both x.id gone id is same other)
      where
        both : (a b c : ℕ) → (a == b) ≡ true → (a == c) ≡ true → (c == b) ≡ false → ⊥
        both a b c one two three = grind (arith, nat_tests)
    by_test true false is same rest = rest
    by_test false true is same rest = rw same refl
    by_test false false is same rest = rw same rest

pub closed_settled : (sets : List OpenSet) (gone : ℕ) → IsSettled sets → is_member sets gone ≡ false → IsSettled (filter (is_other_set gone) sets)
closed_settled sets gone settled none = record {
  once = once_left gone sets settled.once;
  ranked = (settled.ranked.0, each_left (is_other_set gone) (IsRankedIn settled.ranked.0) sets settled.ranked.1);
  known = each_left (is_other_set gone) (λ s. Each s.members (λ told. told.inner ≡ is_open (filter (is_other_set gone) sets) told.object.serial)) sets (λ k s at j told there. settled.known k s at j told there ∙ sym (open_left gone told.object.serial sets (alone sets gone none k s at j told there)));
  exact = each_left (is_other_set gone) (IsExactIn (filter (is_other_set gone) sets)) sets (λ k s at. all_fixed (settled_in (filter (is_other_set gone) sets)) s.members (λ j told there.
      ap (λ ready. settled_told ready told) (ready_left gone told.object.serial sets (alone sets gone none k s at j told there)) ∙ get_mapped (settled_in sets) s.members j told there (settled.exact k s at)));
}

pub closed_held : (holders : BTreeMap ℕ (Vec ℕ)) (sets : List OpenSet) (gone : ℕ) → IsHeld holders sets → IsHeld holders (filter (is_other_set gone) sets)
closed_held holders sets gone held = each_left (is_other_set gone) (λ s. Each s.members (λ told. is_holder holders told.object.serial s.id ≡ true)) sets held

-- the place at which it stood is taken out
pub all_others : (gone : ℕ) (sets : List OpenSet) → length sets ≤ position_or_len (has_id gone) sets → filter (is_other_set gone) sets ≡ sets
all_others gone [] past = refl
all_others gone (x ∷ xs) past = by_test (x.id == gone) past (all_others gone xs)
  where
    by_test : (b : Bool) → suc (length xs) ≤ cond (not b) (1 + position_or_len (has_id gone) xs) 0 → (length xs ≤ position_or_len (has_id gone) xs → filter (is_other_set gone) xs ≡ xs) → cond (not b) (x ∷ filter (is_other_set gone) xs) (filter (is_other_set gone) xs) ≡ x ∷ xs
    by_test true less rest = absurd (omega arith)
    by_test false less rest = ap (λ ys. x ∷ ys) (rest (omega arith))

pub one_left_out : (gone : ℕ) (sets : List OpenSet) → AreOnce (map id_of sets) → position_or_len (has_id gone) sets < length sets → remove sets (position_or_len (has_id gone) sets) ≡ filter (is_other_set gone) sets
one_left_out gone [] once within = absurd (omega arith)
one_left_out gone (x ∷ xs) once within = by_test (x.id == gone) refl within (one_left_out gone xs once.1)
  where
    none_gone : (ys : List OpenSet) → list_any (is_number gone) (map id_of ys) ≡ false → filter (is_other_set gone) ys ≡ ys
    none_gone [] none = refl
    none_gone (y ∷ ys) none = either (y.id == gone) none (none_gone ys)
      where
        either : (b : Bool) → (b || list_any (is_number gone) (map id_of ys)) ≡ false → (list_any (is_number gone) (map id_of ys) ≡ false → filter (is_other_set gone) ys ≡ ys) → cond (not b) (y ∷ filter (is_other_set gone) ys) (filter (is_other_set gone) ys) ≡ y ∷ ys
        either true some rest = absurd (cc)
        either false less rest = ap (λ zs. y ∷ zs) (rest less)

    equal : (a b : ℕ) → (a == b) ≡ true → a ≡ b
    equal a b is = grind (arith, nat_tests)

    by_test : (b : Bool) → (x.id == gone) ≡ b → cond (not b) (1 + position_or_len (has_id gone) xs) 0 < suc (length xs) → (position_or_len (has_id gone) xs < length xs → remove xs (position_or_len (has_id gone) xs) ≡ filter (is_other_set gone) xs) → remove (x ∷ xs) (cond (not b) (1 + position_or_len (has_id gone) xs) 0) ≡ cond (not b) (x ∷ filter (is_other_set gone) xs) (filter (is_other_set gone) xs)
    by_test true is less rest = sym (none_gone xs (ap (λ n. list_any (is_number n) (map id_of xs)) (sym (equal x.id gone is)) ∙ once.0))
    by_test false is less rest = let next : 1 + position_or_len (has_id gone) xs ≡ suc (position_or_len (has_id gone) xs) = omega arith in rw next (ap (λ ys. x ∷ ys) (rest (omega arith)))
