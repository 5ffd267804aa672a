-- The members of a set in order, after one went last or was taken out.
use Rattle.std.proofs.Common.{◌≡◌, ℕ, zero, suc, ◌+◌, ◌≤◌, ◌==◌, Bool, true, false, not, cond, ◌||◌, List, [], ◌∷◌, length, map, take, drop, slice_get, Some, None, refl, ap, ◌∙◌, arith, eq-eqb}
use Rattle.std.specs.List.{remove, filter, list_any, find, position_or_len}
use Rattle.std.proofs.lemmas.List.{map-append, take-map, drop-map}
use Rattle.handle_set.specs.declared.records.TrackedMember.{TrackedMember}
use Rattle.handle_set.specs.Members.{AreDifferent, is_label_in, has_label, with_last, moved_last, is_other}

-- where no member has the label, all are kept
pub all_other : (members : List TrackedMember) (label : ℕ) → is_label_in members label ≡ false → filter (is_other label) members ≡ members
all_other [] label none = refl
all_other (x ∷ xs) label none = by_test (x.label == label) none (all_other xs label)
  where
    by_test : (b : Bool) → (b || is_label_in xs label) ≡ false → (is_label_in xs label ≡ false → filter (is_other label) xs ≡ xs) → cond (not b) (x ∷ filter (is_other label) xs) (filter (is_other label) xs) ≡ x ∷ xs
    by_test true not_none all = absurd (cc)
    by_test false rest all = ap (λ ys. x ∷ ys) (all rest)

-- a member that is there has another label than none
pub differs : (members : List TrackedMember) (at : ℕ) (told : TrackedMember) (label : ℕ) → slice_get members at ≡ Some told → is_label_in members label ≡ false → (told.label == label) ≡ false
differs [] at told label here none = absurd (cc)
differs (x ∷ xs) zero told label here none = by_test (x.label == label) refl none
  where
    same : x ≡ told
    same = cc

    by_test : (b : Bool) → (x.label == label) ≡ b → (b || is_label_in xs label) ≡ false → (told.label == label) ≡ false
    by_test true is not_none = absurd (cc)
    by_test false is rest = rw (← same) is
differs (x ∷ xs) (suc at) told label here none = by_test (x.label == label) none (differs xs at told label here)
  where
    by_test : (b : Bool) → (b || is_label_in xs label) ≡ false → (is_label_in xs label ≡ false → (told.label == label) ≡ false) → (told.label == label) ≡ false
    by_test true not_none other = absurd (cc)
    by_test false rest other = other rest

-- the members but the one at a place
pub others_removed : (members : List TrackedMember) (at : ℕ) (told : TrackedMember) → AreDifferent members → slice_get members at ≡ Some told → filter (is_other told.label) members ≡ remove members at
others_removed [] at told different here = absurd (cc)
others_removed (x ∷ xs) zero told different here =
    let same : x ≡ told = cc in
    let none : is_label_in xs told.label ≡ false = rw (← same) different.0 in
    let is : (x.label == told.label) ≡ true = eq-eqb x.label told.label (ap (λ t. t.label) same) in
    rw is (all_other xs told.label none)
others_removed (x ∷ xs) (suc at) told different here =
    let other : (told.label == x.label) ≡ false = differs xs at told x.label here different.0 in
    let is : (x.label == told.label) ≡ false = grind (arith) in
    rw is (ap (λ ys. x ∷ ys) (others_removed xs at told different.1 here))

pub map_remove : {X Y : Type 0} (f : X → Y) (xs : List X) (at : ℕ) → map f (remove xs at) ≡ remove (map f xs) at
map_remove f xs at = rw (map-append f (take at xs) (drop (suc at) xs), take-map f at xs, drop-map f (suc at) xs) refl

pub taken_one : {X : Type 0} (xs : List X) (at : ℕ) (x : X) → slice_get xs at ≡ Some x → take 1 (drop at xs) ≡ x ∷ []
taken_one [] at x here = absurd (cc)
taken_one (y ∷ ys) zero x here = let same : y ≡ x = cc in ap (λ z. z ∷ []) same
taken_one (y ∷ ys) (suc at) x here = taken_one ys at x here

-- to go last is what a report does to a member
pub last_is : (members : List TrackedMember) (at : ℕ) (told : TrackedMember) → AreDifferent members → slice_get members at ≡ Some told → moved_last at members ≡ with_last told members
last_is members at told different here = rw (taken_one members at told here, ← others_removed members at told different here) refl

-- the first place at which a test holds, from a place on

pub here_position : {X : Type 0} (p : X → Bool) (xs : List X) (at : ℕ) (x : X) → slice_get xs at ≡ Some x → p x ≡ true → position_or_len p (drop at xs) ≡ 0
here_position p [] at x here is = absurd (cc)
here_position p (y ∷ ys) zero x here is = let same : y ≡ x = cc in let now : p y ≡ true = ap p same ∙ is in rw now refl
here_position p (y ∷ ys) (suc at) x here is = here_position p ys at x here is

pub past_position : {X : Type 0} (p : X → Bool) (xs : List X) (at : ℕ) (x : X) → slice_get xs at ≡ Some x → p x ≡ false → position_or_len p (drop at xs) ≡ 1 + position_or_len p (drop (suc at) xs)
past_position p [] at x here is = absurd (cc)
past_position p (y ∷ ys) zero x here is = let same : y ≡ x = cc in let now : p y ≡ false = ap p same ∙ is in rw now refl
past_position p (y ∷ ys) (suc at) x here is = past_position p ys at x here is

pub none_at : {X : Type 0} (xs : List X) (at : ℕ) → length xs ≤ at → slice_get xs at ≡ None
none_at [] at past = refl
none_at (x ∷ xs) zero past = absurd (omega arith)
none_at (x ∷ xs) (suc at) past = none_at xs at (omega arith)

pub found_label : (members : List TrackedMember) (label : ℕ) → find (has_label label) members ≡ None → is_label_in members label ≡ false
found_label [] label none = refl
found_label (x ∷ xs) label none = by_test (x.label == label) none (found_label xs label)
  where
    by_test : (b : Bool) → cond b (Some x) (find (has_label label) xs) ≡ None → (find (has_label label) xs ≡ None → is_label_in xs label ≡ false) → (b || is_label_in xs label) ≡ false
    by_test true some rest = absurd (cc)
    by_test false less rest = rest less

pub label_found : (members : List TrackedMember) (label : ℕ) (told : TrackedMember) → find (has_label label) members ≡ Some told → is_label_in members label ≡ true
label_found [] label told some = absurd (cc)
label_found (x ∷ xs) label told some = by_test (x.label == label) some (label_found xs label told)
  where
    by_test : (b : Bool) → cond b (Some x) (find (has_label label) xs) ≡ Some told → (find (has_label label) xs ≡ Some told → is_label_in xs label ≡ true) → (b || is_label_in xs label) ≡ true
    by_test true here rest = refl
    by_test false here rest = rest here

-- a test of some item, from a place on

pub any_here : {X : Type 0} (p : X → Bool) (xs : List X) (at : ℕ) (x : X) → slice_get xs at ≡ Some x → p x ≡ true → list_any p (drop at xs) ≡ true
any_here p [] at x here is = absurd (cc)
any_here p (y ∷ ys) zero x here is = let same : y ≡ x = cc in let now : p y ≡ true = ap p same ∙ is in rw now refl
any_here p (y ∷ ys) (suc at) x here is = any_here p ys at x here is

pub any_past : {X : Type 0} (p : X → Bool) (xs : List X) (at : ℕ) (x : X) → slice_get xs at ≡ Some x → p x ≡ false → list_any p (drop at xs) ≡ list_any p (drop (suc at) xs)
any_past p [] at x here is = absurd (cc)
any_past p (y ∷ ys) zero x here is = let same : y ≡ x = cc in let now : p y ≡ false = ap p same ∙ is in rw now refl
any_past p (y ∷ ys) (suc at) x here is = any_past p ys at x here is
