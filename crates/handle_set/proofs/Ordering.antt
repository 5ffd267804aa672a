-- Records in order of their rows: what a change of one row, and one of the order, leave.
use Rattle.std.proofs.Common.{◌≡◌, ◌⊎◌, inl, inr, ℕ, zero, suc, ◌+◌, ◌-◌, ◌<◌, ◌≤◌, ◌==◌, Bool, true, false, List, [], ◌∷◌, ◌++◌, length, map, take, drop, set, slice_get, Some, refl, sym, ap, ◌∙◌, arith, subst, length-append, length-set, eq-eqb}
use Rattle.std.specs.List.{remove}
use Rattle.std.proofs.lemmas.List.{map-append, length-map, take-append-drop, length-take-le, take_at, get_or-set_same, get_or-set_other}
use Rattle.std.proofs.lemmas.List.Edits.{length-remove}
use Rattle.std.proofs.lemmas.Bool.{cases_lt}
use Rattle.std.proofs.lemmas.Bool.Decides.{nat_tests}
use Rattle.handle_set.specs.declared.records.TrackedMember.{TrackedMember}
use Rattle.handle_set.specs.Members.{moved_last}
use Rattle.handle_set.specs.Slots.{IsOrder, blank, row, in_order, one_if, times}
use Rattle.handle_set.proofs.Orders.{map_remove}
use Rattle.handle_set.proofs.Places.{get_map}

-- how often a number stands in a list

times_append : (n : ℕ) (xs ys : List ℕ) → times n (xs ++ ys) ≡ times n xs + times n ys
times_append n [] ys = omega arith
times_append n (x ∷ xs) ys = let rest = times_append n xs ys in omega arith

times_parts : (n k : ℕ) (xs : List ℕ) → times n (take k xs) + times n (drop k xs) ≡ times n xs
times_parts n k xs = sym (times_append n (take k xs) (drop k xs)) ∙ ap (times n) (take-append-drop k xs)

equal_one : (k : ℕ) → one_if (k == k) ≡ 1
equal_one k = ap one_if (eq-eqb k k refl)

times_here : (xs : List ℕ) (at k : ℕ) → slice_get xs at ≡ Some k → 1 ≤ times k xs
times_here [] at k here = absurd (cc)
times_here (x ∷ xs) zero k here =
    let is : x ≡ k = cc in
    let one : one_if (x == k) ≡ 1 = ap one_if (eq-eqb x k is) in
    omega arith
times_here (x ∷ xs) (suc at) k here = let more = times_here xs at k here in omega arith

-- one moved to the end

times_moved : (n : ℕ) (xs : List ℕ) (at : ℕ) → times n (moved_last at xs) ≡ times n xs
times_moved n [] at = nothing at
  where
    nothing : (at : ℕ) → times n (moved_last at []) ≡ 0
    nothing zero = refl
    nothing (suc at) = refl
times_moved n (x ∷ xs) zero = let all = times_append n xs (x ∷ []) in omega arith
times_moved n (x ∷ xs) (suc at) = let rest = times_moved n xs at in omega arith

map_moved : {X Y : Type 0} (f : X → Y) (xs : List X) (at : ℕ) → map f (moved_last at xs) ≡ moved_last at (map f xs)
map_moved f [] zero = refl
map_moved f [] (suc at) = refl
map_moved f (x ∷ xs) zero = map-append f xs (x ∷ [])
map_moved f (x ∷ xs) (suc at) = ap (λ ys. f x ∷ ys) (map_moved f xs at)

length_moved : {X : Type 0} (xs : List X) (at : ℕ) → length (moved_last at xs) ≡ length xs
length_moved [] zero = refl
length_moved [] (suc at) = refl
length_moved (x ∷ xs) zero = omega (arith, length-append xs (x ∷ []))
length_moved (x ∷ xs) (suc at) = ap suc (length_moved xs at)

-- what stands at a place

get_take : {X : Type 0} (xs : List X) (n k : ℕ) → k < n → slice_get (take n xs) k ≡ slice_get xs k
get_take [] zero k less = absurd (omega arith)
get_take [] (suc n) k less = refl
get_take (x ∷ xs) zero k less = absurd (omega arith)
get_take (x ∷ xs) (suc n) zero less = refl
get_take (x ∷ xs) (suc n) (suc k) less = get_take xs n k (omega arith)

row_is : (rows : List TrackedMember) (k : ℕ) (told : TrackedMember) → slice_get rows k ≡ Some told → row rows k ≡ told
row_is [] k told here = absurd (cc)
row_is (x ∷ xs) zero told here = cc
row_is (x ∷ xs) (suc k) told here = row_is xs k told here

-- a row that is written

row_set : (rows : List TrackedMember) (k : ℕ) (told : TrackedMember) → k < length rows → row (set rows k told) k ≡ told
row_set rows k told within = get_or-set_same rows k told blank within

unwritten : (rows : List TrackedMember) (k : ℕ) (told : TrackedMember) (order : List ℕ) → times k order ≡ 0 → in_order (set rows k told) order ≡ in_order rows order
unwritten rows k told [] none = refl
unwritten rows k told (x ∷ xs) none = by_test (x == k) refl none (unwritten rows k told xs)
  where
    differ : (x == k) ≡ false → x ≡ k → ⊥
    differ is same = grind (arith, nat_tests)

    by_test : (b : Bool) → (x == k) ≡ b → one_if b + times k xs ≡ 0 → (times k xs ≡ 0 → in_order (set rows k told) xs ≡ in_order rows xs) → row (set rows k told) x ∷ in_order (set rows k told) xs ≡ row rows x ∷ in_order rows xs
    by_test true is some rest = absurd (omega arith)
    by_test false is few rest = rw (get_or-set_other rows k x told blank (differ is), rest (omega arith)) refl

written_at : (rows : List TrackedMember) (k at : ℕ) (told : TrackedMember) (order : List ℕ) → k < length rows → times k order ≤ 1 → slice_get order at ≡ Some k → in_order (set rows k told) order ≡ set (in_order rows order) at told
written_at rows k at told [] within once here = absurd (cc)
written_at rows k zero told (x ∷ xs) within once here =
    let is : x ≡ k = cc in
    let one : one_if (x == k) ≡ 1 = ap one_if (eq-eqb x k is) in
    let rest = unwritten rows k told xs (omega arith) in
    ap (λ y. row (set rows k told) y ∷ in_order (set rows k told) xs) is
    ∙ ap (λ t. t ∷ in_order (set rows k told) xs) (row_set rows k told within)
    ∙ ap (λ ts. told ∷ ts) rest
written_at rows k (suc at) told (x ∷ xs) within once here = by_test (x == k) refl once (λ few. written_at rows k at told xs within few here)
  where
    some : 1 ≤ times k xs
    some = times_here xs at k here

    differ : (x == k) ≡ false → x ≡ k → ⊥
    differ is same = grind (arith, nat_tests)

    by_test : (b : Bool) → (x == k) ≡ b → one_if b + times k xs ≤ 1 → (times k xs ≤ 1 → in_order (set rows k told) xs ≡ set (in_order rows xs) at told) → row (set rows k told) x ∷ in_order (set rows k told) xs ≡ row rows x ∷ set (in_order rows xs) at told
    by_test true is many rest = (let one = some in absurd (omega arith))
    by_test false is few rest = rw (get_or-set_other rows k x told blank (differ is), rest (omega arith)) refl

take_more : {X : Type 0} (xs : List X) (n : ℕ) (x : X) → slice_get xs n ≡ Some x → take (suc n) xs ≡ take n xs ++ x ∷ []
take_more [] n x here = absurd (cc)
take_more (y ∷ ys) zero x here = let is : y ≡ x = cc in ap (λ z. z ∷ []) is
take_more (y ∷ ys) (suc n) x here = ap (λ zs. y ∷ zs) (take_more ys n x here)

module _ (rows : List TrackedMember) (order : List ℕ) (len : ℕ) (is : IsOrder rows order len) where
  pub long_as : length (in_order rows (take len order)) ≡ len
  long_as =
      let long = is.long in
      let few = is.few in
      length-map (take len order) (row rows) ∙ length-take-le len order (omega arith)

  pub place_within : (at : ℕ) → at < length (in_order rows (take len order)) → at < length order
  place_within at less =
      let same = long_as in
      let long = is.long in
      let few = is.few in
      omega arith

  pub row_within : (at k : ℕ) → slice_get order at ≡ Some k → k < length rows
  row_within at k here = by_size (cases_lt k 64)
    where
      by_size : ((k < 64) ⊎ (64 ≤ k)) → k < length rows
      by_size (inl less) = let size = is.size in omega arith
      by_size (inr more) = let none = is.within k more in let some = times_here order at k here in absurd (omega arith)

  pub record_at : (at k : ℕ) (told : TrackedMember) → at < length (in_order rows (take len order)) → slice_get order at ≡ Some k → slice_get rows k ≡ Some told → slice_get (in_order rows (take len order)) at ≡ Some told
  record_at at k told less here there =
      let same = long_as in
      get_map (row rows) (take len order) at k (get_take order len at (omega arith) ∙ here) ∙ ap Some (row_is rows k told there)

  -- a record changed in its row
  pub record_set : (at k : ℕ) (told : TrackedMember) → at < length (in_order rows (take len order)) → slice_get order at ≡ Some k → in_order (set rows k told) (take len order) ≡ set (in_order rows (take len order)) at told
  record_set at k told less here =
      let same = long_as in
      let parts = times_parts k len order in
      let once = is.once k in
      written_at rows k at told (take len order) (row_within at k here) (omega arith) (get_take order len at (omega arith) ∙ here)

  pub still_order : (k : ℕ) (told : TrackedMember) → IsOrder (set rows k told) order len
  still_order k told = record { size = length-set rows k told ∙ is.size; long = is.long; few = is.few; once = is.once; within = is.within }

  -- one more record
  pub record_more : (k : ℕ) (told : TrackedMember) → slice_get order len ≡ Some k → in_order (set rows k told) (take (suc len) order) ≡ in_order rows (take len order) ++ told ∷ []
  record_more k told here =
      let more = take_more order len k here in
      let parts = times_parts k (suc len) order in
      let once = is.once k in
      let both : times k (take (suc len) order) ≡ times k (take len order) + times k (k ∷ []) = ap (times k) more ∙ times_append k (take len order) (k ∷ []) in
      let one : times k (k ∷ []) ≡ 1 = (let it = equal_one k in omega arith) in
      ap (in_order (set rows k told)) more
      ∙ map-append (row (set rows k told)) (take len order) (k ∷ [])
      ∙ ap (λ ts. ts ++ row (set rows k told) k ∷ []) (unwritten rows k told (take len order) (omega arith))
      ∙ ap (λ t. in_order rows (take len order) ++ t ∷ []) (row_set rows k told (row_within len k here))

  pub more_order : (k : ℕ) (told : TrackedMember) → len < 64 → IsOrder (set rows k told) order (suc len)
  more_order k told room = record { size = length-set rows k told ∙ is.size; long = is.long; few = omega arith; once = is.once; within = is.within }

  -- another order
  module _ (at : ℕ) where
    abbrev pub now : List ℕ
    now = moved_last at (take len order) ++ drop len order

    first : take len now ≡ moved_last at (take len order)
    first =
        let long = is.long in
        let few = is.few in
        take_at (moved_last at (take len order)) (drop len order) len (length_moved (take len order) at ∙ length-take-le len order (omega arith))

    times_now : (n : ℕ) → times n now ≡ times n order
    times_now n = times_append n (moved_last at (take len order)) (drop len order) ∙ ap (λ t. t + times n (drop len order)) (times_moved n (take len order) at) ∙ times_parts n len order

    long_now : length now ≡ length order
    long_now = length-append (moved_last at (take len order)) (drop len order) ∙ ap (λ l. l + length (drop len order)) (length_moved (take len order) at) ∙ sym (length-append (take len order) (drop len order)) ∙ ap length (take-append-drop len order)

    pub moved_records : in_order rows (take len now) ≡ moved_last at (in_order rows (take len order))
    moved_records = ap (in_order rows) first ∙ map_moved (row rows) (take len order) at

    pub moved_order : (fewer : ℕ) → fewer ≤ len → IsOrder rows now fewer
    moved_order fewer less =
        let few = is.few in
        record {
          size = is.size;
          long = long_now ∙ is.long;
          few = omega arith;
          once = λ n. subst (λ t. t ≤ 1) (sym (times_now n)) (is.once n);
          within = λ n far. times_now n ∙ is.within n far;
        }

    pub removed_records : at < length (in_order rows (take len order)) → in_order rows (take (len - 1) now) ≡ remove (in_order rows (take len order)) at
    removed_records less =
        let same = long_as in
        let long = is.long in
        let few = is.few in
        let size = length-take-le len order (omega arith) in
        let shorter = length-remove (take len order) at (omega arith) in
        let shape : take (len - 1) now ≡ remove (take len order) at = shortened in
        ap (in_order rows) shape ∙ map_remove (row rows) (take len order) at
      where
        sizes : length (remove (take len order) at) ≡ len - 1
        sizes =
            let same = long_as in
            let long = is.long in
            let few = is.few in
            let size = length-take-le len order (omega arith) in
            let shorter = length-remove (take len order) at (omega arith) in
            omega arith

        shortened : take (len - 1) now ≡ remove (take len order) at
        shortened = ap (take (len - 1)) (append_twice (remove (take len order) at) (take 1 (drop at (take len order))) (drop len order)) ∙ take_at (remove (take len order) at) (take 1 (drop at (take len order)) ++ drop len order) (len - 1) sizes
          where
            append_twice : {X : Type 0} (xs ys zs : List X) → (xs ++ ys) ++ zs ≡ xs ++ (ys ++ zs)
            append_twice [] ys zs = refl
            append_twice (x ∷ xs) ys zs = ap (λ l. x ∷ l) (append_twice xs ys zs)
