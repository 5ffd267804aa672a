-- What the bits of a set say, before and after its first ready member goes last.
use Rattle.std.proofs.Common.{◌≡◌, ℕ, zero, suc, ◌+◌, ◌<◌, ◌≤◌, ◌==◌, Bool, true, false, not, cond, ◌||◌, List, [], ◌∷◌, ◌++◌, length, map, slice_get, Option, Some, None, refl, sym, ap, ◌∙◌, arith, length-append, set, length-set}
use Rattle.std.specs.List.{remove, filter, list_any, position_or_len, find}
use Rattle.std.specs.Option.{option_map}
use Rattle.std.specs.Int.{trailing_zeros, w64}
use Rattle.std.proofs.lemmas.List.{map-append, length-map, map-set}
use Rattle.std.proofs.lemmas.List.Edits.{length-remove}
use Rattle.std.proofs.lemmas.List.Folds.{find_at}
use Rattle.std.proofs.lemmas.Simd.{trailing_mask_l}
use Rattle.std.proofs.lemmas.Bool.Decides.{nat_tests}
use lib.Lanes.{mask_l}
use Rattle.handle_set.specs.declared.records.TrackedMember.{TrackedMember}
use Rattle.handle_set.specs.Members.{AreDifferent, is_label_in, has_label, with_last, moved_last, is_ready, is_inner, is_other}
use Rattle.handle_set.specs.Rows.{IsReadyList}
use Rattle.handle_set.proofs.Masks.{first_within}
use Rattle.handle_set.proofs.Orders.{map_remove, taken_one, others_removed, none_at}
use Rattle.handle_set.proofs.Places.{set_same}

found_passes : {X : Type 0} (p : X → Bool) (xs : List X) (x : X) → find p xs ≡ Some x → p x ≡ true
found_passes p [] x found = absurd (cc)
found_passes p (y ∷ ys) x found = by_test (p y) refl found (found_passes p ys x)
  where
    by_test : (b : Bool) → p y ≡ b → cond b (Some y) (find p ys) ≡ Some x → (find p ys ≡ Some x → p x ≡ true) → p x ≡ true
    by_test true is here rest = let same : y ≡ x = cc in rw (← same) is
    by_test false is here rest = rest here

-- labels stay different

label_kept : (members : List TrackedMember) (label gone : ℕ) → is_label_in members label ≡ false → is_label_in (filter (is_other gone) members) label ≡ false
label_kept [] label gone none = refl
label_kept (x ∷ xs) label gone none = by_test (x.label == gone) (x.label == label) refl none (label_kept xs label gone)
  where
    by_test : (b c : Bool) → (x.label == label) ≡ c → (c || is_label_in xs label) ≡ false → (is_label_in xs label ≡ false → is_label_in (filter (is_other gone) xs) label ≡ false) → list_any (has_label label) (cond (not b) (x ∷ filter (is_other gone) xs) (filter (is_other gone) xs)) ≡ false
    by_test b true is absent rest = absurd (cc)
    by_test true false is absent rest = rest absent
    by_test false false is absent rest = rw is (rest absent)

different_filter : (members : List TrackedMember) (gone : ℕ) → AreDifferent members → AreDifferent (filter (is_other gone) members)
different_filter [] gone different = different
different_filter (x ∷ xs) gone different = by_test (x.label == gone) (label_kept xs x.label gone different.0) (different_filter xs gone different.1)
  where
    by_test : (b : Bool) → is_label_in (filter (is_other gone) xs) x.label ≡ false → AreDifferent (filter (is_other gone) xs) → AreDifferent (cond (not b) (x ∷ filter (is_other gone) xs) (filter (is_other gone) xs))
    by_test true absent rest = rest
    by_test false absent rest = (absent, rest)

gone_absent : (members : List TrackedMember) (gone : ℕ) → is_label_in (filter (is_other gone) members) gone ≡ false
gone_absent [] gone = refl
gone_absent (x ∷ xs) gone = by_test (x.label == gone) refl (gone_absent xs gone)
  where
    by_test : (b : Bool) → (x.label == gone) ≡ b → is_label_in (filter (is_other gone) xs) gone ≡ false → list_any (has_label gone) (cond (not b) (x ∷ filter (is_other gone) xs) (filter (is_other gone) xs)) ≡ false
    by_test true is rest = rest
    by_test false is rest = rw is rest

flipped : (a b : ℕ) → (a == b) ≡ false → (b == a) ≡ false
flipped a b is = grind (arith, nat_tests)

any_push : (members : List TrackedMember) (told : TrackedMember) (label : ℕ) → is_label_in members label ≡ false → has_label label told ≡ false → is_label_in (members ++ told ∷ []) label ≡ false
any_push [] told label none other = rw other refl
any_push (x ∷ xs) told label none other = by_test (x.label == label) none (λ less. any_push xs told label less other)
  where
    by_test : (b : Bool) → (b || is_label_in xs label) ≡ false → (is_label_in xs label ≡ false → is_label_in (xs ++ told ∷ []) label ≡ false) → (b || is_label_in (xs ++ told ∷ []) label) ≡ false
    by_test true not_none rest = absurd (cc)
    by_test false less rest = rest less

pub different_push : (members : List TrackedMember) (told : TrackedMember) → AreDifferent members → is_label_in members told.label ≡ false → AreDifferent (members ++ told ∷ [])
different_push [] told different absent = (refl, tt)
different_push (x ∷ xs) told different absent = by_test (x.label == told.label) refl absent (different_push xs told different.1) (any_push xs told x.label different.0)
  where
    by_test : (b : Bool) → (x.label == told.label) ≡ b → (b || is_label_in xs told.label) ≡ false → (is_label_in xs told.label ≡ false → AreDifferent (xs ++ told ∷ [])) → (has_label x.label told ≡ false → is_label_in (xs ++ told ∷ []) x.label ≡ false) → AreDifferent ((x ∷ xs) ++ told ∷ [])
    by_test true is not_none rest last = absurd (cc)
    by_test false is none rest last = (last (flipped x.label told.label is), rest none)

module _ (members : List TrackedMember) (ready inner : ℕ) (roster : IsReadyList members ready inner) (some : 0 < ready) where
  pub at_first : trailing_zeros w64 ready ≡ position_or_len is_ready members
  at_first =
      let marked = roster.marked in
      let more : 0 < mask_l (map is_ready members) = omega arith in
      rw marked (trailing_mask_l is_ready 64 members roster.few more)

  pub at_within : trailing_zeros w64 ready < length members
  at_within =
      let marked = roster.marked in
      let more : 0 < mask_l (map is_ready members) = omega arith in
      rw at_first (first_within is_ready members more)

  pub found_at : find is_ready members ≡ slice_get members (trailing_zeros w64 ready)
  found_at = rw at_first (find_at is_ready members)

  module _ (told : TrackedMember) (here : slice_get members (trailing_zeros w64 ready) ≡ Some told) where
    pub found_told : find is_ready members ≡ Some told
    found_told = found_at ∙ here

    pub moved_is : moved_last (trailing_zeros w64 ready) members ≡ with_last told members
    moved_is = rw (taken_one members (trailing_zeros w64 ready) told here, ← others_removed members (trailing_zeros w64 ready) told roster.different here) refl

    pub moved_marks : map is_ready (moved_last (trailing_zeros w64 ready) members) ≡ remove (map is_ready members) (trailing_zeros w64 ready) ++ true ∷ []
    moved_marks =
        let passes = found_passes is_ready members told found_told in
        rw (taken_one members (trailing_zeros w64 ready) told here, map-append is_ready (remove members (trailing_zeros w64 ready)) (told ∷ []), map_remove is_ready members (trailing_zeros w64 ready)) (ap (λ b. remove (map is_ready members) (trailing_zeros w64 ready) ++ b ∷ []) passes)

    pub moved_inner : map is_inner (moved_last (trailing_zeros w64 ready) members) ≡ remove (map is_inner members) (trailing_zeros w64 ready) ++ told.inner ∷ []
    moved_inner = rw (taken_one members (trailing_zeros w64 ready) told here, map-append is_inner (remove members (trailing_zeros w64 ready)) (told ∷ []), map_remove is_inner members (trailing_zeros w64 ready)) refl

    pub moved_different : AreDifferent (moved_last (trailing_zeros w64 ready) members)
    moved_different = rw moved_is (different_push (filter (is_other told.label) members) told (different_filter members told.label roster.different) (gone_absent members told.label))

    pub moved_length : length (moved_last (trailing_zeros w64 ready) members) ≡ length members
    moved_length =
        let one = taken_one members (trailing_zeros w64 ready) told here in
        let whole = length-remove members (trailing_zeros w64 ready) at_within in
        rw (one, length-append (remove members (trailing_zeros w64 ready)) (told ∷ [])) whole

    pub marks_left : (p : TrackedMember → Bool) → length (remove (map p members) (trailing_zeros w64 ready)) + 1 ≡ length members
    marks_left p =
        let long = length-map members p in
        let within = at_within in
        let less = length-remove (map p members) (trailing_zeros w64 ready) (omega arith) in
        omega arith

    pub moved_list : (later deeper : ℕ) → later ≡ mask_l (remove (map is_ready members) (trailing_zeros w64 ready) ++ true ∷ []) → deeper ≡ mask_l (remove (map is_inner members) (trailing_zeros w64 ready) ++ told.inner ∷ []) → IsReadyList (moved_last (trailing_zeros w64 ready) members) later deeper
    moved_list later deeper is in_is = record {
      few = rw moved_length roster.few;
      marked = is ∙ sym (ap mask_l moved_marks);
      nested = in_is ∙ sym (ap mask_l moved_inner);
      different = moved_different;
    }

-- one member gets other events

label_set : (members : List TrackedMember) (at : ℕ) (told new : TrackedMember) (label : ℕ) → slice_get members at ≡ Some told → new.label ≡ told.label → is_label_in (set members at new) label ≡ is_label_in members label
label_set [] at told new label here same = refl
label_set (x ∷ xs) zero told new label here same = let is : x ≡ told = cc in rw (is, same) refl
label_set (x ∷ xs) (suc at) told new label here same = ap (λ b. (x.label == label) || b) (label_set xs at told new label here same)

different_set : (members : List TrackedMember) (at : ℕ) (told new : TrackedMember) → slice_get members at ≡ Some told → new.label ≡ told.label → AreDifferent members → AreDifferent (set members at new)
different_set [] at told new here same different = different
different_set (x ∷ xs) zero told new here same different = let is : x ≡ told = cc in (rw (same, ← is) different.0, different.1)
different_set (x ∷ xs) (suc at) told new here same different = (label_set xs at told new x.label here same ∙ different.0, different_set xs at told new here same different.1)

pub set_list : (members : List TrackedMember) (ready inner : ℕ) → IsReadyList members ready inner → (at : ℕ) (told new : TrackedMember) → slice_get members at ≡ Some told → new.label ≡ told.label → new.inner ≡ told.inner → (later : ℕ) → later ≡ mask_l (set (map is_ready members) at (is_ready new)) → IsReadyList (set members at new) later inner
set_list members ready inner roster at told new here same kept later is = record {
  few = rw (length-set members at new) roster.few;
  marked = is ∙ ap mask_l (sym (map-set is_ready members at new));
  nested = roster.nested ∙ ap mask_l (sym (map-set is_inner members at new ∙ ap (λ b. set (map is_inner members) at b) kept ∙ set_same (map is_inner members) at told.inner (mark_at members at told here)));
  different = different_set members at told new here same roster.different;
}
  where
    mark_at : (ms : List TrackedMember) (k : ℕ) (t : TrackedMember) → slice_get ms k ≡ Some t → slice_get (map is_inner ms) k ≡ Some t.inner
    mark_at [] k t at_k = absurd (cc)
    mark_at (x ∷ xs) zero t at_k = ap (λ (o : Option TrackedMember). option_map is_inner o) at_k
    mark_at (x ∷ xs) (suc k) t at_k = mark_at xs k t at_k

pub push_list : (members : List TrackedMember) (ready inner : ℕ) → IsReadyList members ready inner → (told : TrackedMember) → length members < 64 → is_label_in members told.label ≡ false → (later deeper : ℕ) → later ≡ mask_l (map is_ready members ++ is_ready told ∷ []) → deeper ≡ mask_l (map is_inner members ++ told.inner ∷ []) → IsReadyList (members ++ told ∷ []) later deeper
push_list members ready inner roster told room absent later deeper is in_is = record {
  few = omega (arith, length-append members (told ∷ []));
  marked = is ∙ ap mask_l (sym (map-append is_ready members (told ∷ [])));
  nested = in_is ∙ ap mask_l (sym (map-append is_inner members (told ∷ [])));
  different = different_push members told roster.different absent;
}

-- one member is taken out

pub remove_list : (members : List TrackedMember) (ready inner : ℕ) → IsReadyList members ready inner → (at : ℕ) (told : TrackedMember) → slice_get members at ≡ Some told → at < length members → (later deeper : ℕ) → later ≡ mask_l (remove (map is_ready members) at) → deeper ≡ mask_l (remove (map is_inner members) at) → IsReadyList (remove members at) later deeper
remove_list members ready inner roster at told here within later deeper is in_is = record {
  few = let less = length-remove members at within in let most = roster.few in omega arith;
  marked = is ∙ ap mask_l (sym (map_remove is_ready members at));
  nested = in_is ∙ ap mask_l (sym (map_remove is_inner members at));
  different = rw (← others_removed members at told roster.different here) (different_filter members told.label roster.different);
}

equal_label : (a b : ℕ) → (a == b) ≡ true → a ≡ b
equal_label a b is = grind (arith, nat_tests)

pub labelled_at : (members : List TrackedMember) (label at : ℕ) (told : TrackedMember) → at ≡ position_or_len (has_label label) members → slice_get members at ≡ Some told → (find (has_label label) members ≡ Some told) × (told.label ≡ label)
labelled_at members label at told is here =
    let found = find_at (has_label label) members ∙ ap (slice_get members) (sym is) ∙ here in
    (found, equal_label told.label label (found_passes (has_label label) members told found))

pub label_past : (members : List TrackedMember) (label at : ℕ) → at ≡ position_or_len (has_label label) members → length members ≤ at → find (has_label label) members ≡ None
label_past members label at is high = find_at (has_label label) members ∙ ap (slice_get members) (sym is) ∙ none_at members at high
