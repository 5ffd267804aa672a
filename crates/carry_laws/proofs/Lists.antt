-- Lists whose items stand at places that count up, and how often a number stands in a list.
use Rattle.std.proofs.Common.{◌≡◌, ◌≢◌, ℕ, zero, suc, ◌+◌, ◌-◌, ◌%◌, ◌<◌, ◌≤◌, Bool, true, false, ◌||◌, eqb, List, [], ◌∷◌, ◌++◌, length, map, take, drop, refl, sym, ap, subst, ◌∙◌, arith, inl, inr}
use Rattle.std.specs.List.{insert, list_any, range_with_len}
use Rattle.std.proofs.lemmas.Bool.{cases_lt, eq-eqb}
use Rattle.std.proofs.lemmas.List.{length-append, take-append-drop}
use Rattle.std.proofs.Math.Nat.{add-mod, add-mod_right, mod-eq_of_lt, mod-lt}

-- each item meets P at its place, from `at` on
abbrev pub AllFrom : {X : Type 0} → (ℕ → X → Type 0) → ℕ → List X → Type 0
AllFrom P at [] = Unit {0}
AllFrom P at (x ∷ xs) = P at x × AllFrom P (at + 1) xs

-- each item meets R
abbrev pub AllOf : {X : Type 0} → (X → Type 0) → List X → Type 0
AllOf R [] = Unit {0}
AllOf R (x ∷ xs) = R x × AllOf R xs

pub from_kept : {X : Type 0} (P Q : ℕ → X → Type 0) (R : X → Type 0) (at : ℕ) (xs : List X) → AllFrom P at xs → AllOf R xs
    → ((k : ℕ) (x : X) → at ≤ k → k < at + length xs → R x → P k x → Q k x) → AllFrom Q at xs
from_kept P Q R at [] all of keeps = tt
from_kept P Q R at (x ∷ xs) all of keeps =
    (keeps at x (omega arith) (omega arith) of.0 all.0, from_kept P Q R (at + 1) xs all.1 of.1 (λ k y low high r p. keeps k y (omega arith) (omega arith) r p))

pub from_mapped : {X : Type 0} (P Q : ℕ → X → Type 0) (at : ℕ) (xs : List X) → AllFrom P at xs
    → ((k : ℕ) (x : X) → at ≤ k → k < at + length xs → P k x → Q k x) → AllFrom Q at xs
from_mapped P Q at [] all keeps = tt
from_mapped P Q at (x ∷ xs) all keeps =
    (keeps at x (omega arith) (omega arith) all.0, from_mapped P Q (at + 1) xs all.1 (λ k y low high p. keeps k y (omega arith) (omega arith) p))

pub from_of : {X : Type 0} (P : ℕ → X → Type 0) (R : X → Type 0) (at : ℕ) (xs : List X) → AllFrom P at xs → ((k : ℕ) (x : X) → P k x → R x) → AllOf R xs
from_of P R at [] all says = tt
from_of P R at (x ∷ xs) all says = (says at x all.0, from_of P R (at + 1) xs all.1 says)

pub from_at : {X : Type 0} (P : ℕ → X → Type 0) (at to : ℕ) (xs : List X) → at ≡ to → AllFrom P at xs → AllFrom P to xs
from_at P at to xs same all = subst (λ n. AllFrom P n xs) same all

pub from_append : {X : Type 0} (P : ℕ → X → Type 0) (at : ℕ) (xs ys : List X) → AllFrom P at xs → AllFrom P (at + length xs) ys → AllFrom P at (xs ++ ys)
from_append P at [] ys all more = from_at P (at + 0) at ys (omega arith) more
from_append P at (x ∷ xs) ys all more =
    (all.0, from_append P (at + 1) xs ys all.1 (from_at P (at + suc (length xs)) (at + 1 + length xs) ys (omega arith) more))

-- what a function gives at each place, in order
pub from_range : {X Y : Type 0} (h : ℕ → Y) (g : X → Y) (at : ℕ) (xs : List X) → AllFrom (λ k x. h k ≡ g x) at xs → map h (range_with_len at (length xs)) ≡ map g xs
from_range h g at [] all = refl
from_range h g at (x ∷ xs) all = ap (λ y. y ∷ map h (range_with_len (at + 1) (length xs))) all.0 ∙ ap (λ ys. g x ∷ ys) (from_range h g (at + 1) xs all.1)

-- the places moved down
pub from_moved : {X : Type 0} (P : ℕ → X → Type 0) (low at : ℕ) (xs : List X) → AllFrom P (low + at) xs → AllFrom (λ k x. P (low + k) x) at xs
from_moved P low at [] all = tt
from_moved P low at (x ∷ xs) all = (all.0, from_moved P low (at + 1) xs (from_at P (low + at + 1) (low + (at + 1)) xs (omega arith) all.1))

pub of_append : {X : Type 0} (R : X → Type 0) (xs ys : List X) → AllOf R xs → AllOf R ys → AllOf R (xs ++ ys)
of_append R [] ys all more = more
of_append R (x ∷ xs) ys all more = (all.0, of_append R xs ys all.1 more)

pub of_mapped : {X : Type 0} (R S : X → Type 0) → ((x : X) → R x → S x) → (xs : List X) → AllOf R xs → AllOf S xs
of_mapped R S says [] all = tt
of_mapped R S says (x ∷ xs) all = (says x all.0, of_mapped R S says xs all.1)

of_take : {X : Type 0} (R : X → Type 0) (n : ℕ) (xs : List X) → AllOf R xs → AllOf R (take n xs)
of_take R zero xs all = tt
of_take R (suc n) [] all = tt
of_take R (suc n) (x ∷ xs) all = (all.0, of_take R n xs all.1)

of_drop : {X : Type 0} (R : X → Type 0) (n : ℕ) (xs : List X) → AllOf R xs → AllOf R (drop n xs)
of_drop R zero xs all = all
of_drop R (suc n) [] all = tt
of_drop R (suc n) (x ∷ xs) all = of_drop R n xs all.1

pub of_inserted : {X : Type 0} (R : X → Type 0) (at : ℕ) (x : X) (xs : List X) → R x → AllOf R xs → AllOf R (insert xs at x)
of_inserted R at x xs one all = of_append R (take at xs) (x ∷ drop at xs) (of_take R at xs all) (one, of_drop R at xs all)

pub map_self : (xs : List ℕ) → map (λ x. x) xs ≡ xs
map_self [] = refl
map_self (x ∷ xs) = ap (λ ys. x ∷ ys) (map_self xs)

-- How often a number stands in a list.

abbrev pub one_where : Bool → ℕ
one_where true = 1
one_where false = 0

abbrev pub times : ℕ → List ℕ → ℕ
times p [] = 0
times p (x ∷ xs) = one_where (eqb x p) + times p xs

pub times_append : (p : ℕ) (xs ys : List ℕ) → times p (xs ++ ys) ≡ times p xs + times p ys
times_append p [] ys = omega arith
times_append p (x ∷ xs) ys = let rest : times p (xs ++ ys) ≡ times p xs + times p ys = times_append p xs ys in omega arith

eqb_self : (p : ℕ) → eqb p p ≡ true
eqb_self p = eq-eqb p p refl

pub once_more : (p : ℕ) (xs : List ℕ) → times p (p ∷ xs) ≡ 1 + times p xs
once_more p xs = ap (λ b. one_where b + times p xs) (eqb_self p)

-- a number that does not stand in a list is none of its items
pub times_none : {X : Type 0} (place : X → ℕ) (p : ℕ) (xs : List X) → times p (map place xs) ≡ 0 → AllOf (λ x. place x ≢ p) xs
times_none place p [] none = tt
times_none place p (x ∷ xs) none =
    let other : place x ≢ p = λ same. let here : one_where (eqb (place x) p) ≡ 1 = ap (λ n. one_where (eqb n p)) same ∙ ap one_where (eqb_self p) in omega arith in
    (other, times_none place p xs (omega arith))

pub times_inserted : (p x at : ℕ) (xs : List ℕ) → times p (insert xs at x) ≡ one_where (eqb x p) + times p xs
times_inserted p x at xs =
    let whole : times p (take at xs) + times p (drop at xs) ≡ times p xs = sym (times_append p (take at xs) (drop at xs)) ∙ ap (times p) (take-append-drop at xs) in
    let parts : times p (take at xs ++ x ∷ drop at xs) ≡ times p (take at xs) + times p (x ∷ drop at xs) = times_append p (take at xs) (x ∷ drop at xs) in
    omega arith

pub length_inserted : (x at : ℕ) (xs : List ℕ) → length (insert xs at x) ≡ 1 + length xs
length_inserted x at xs =
    let whole : length (take at xs) + length (drop at xs) ≡ length xs = sym (length-append (take at xs) (drop at xs)) ∙ ap length (take-append-drop at xs) in
    omega (arith, length-append (take at xs) (x ∷ drop at xs))

pub none_any : (p : ℕ) (xs : List ℕ) → times p xs ≡ 0 → list_any (λ other. eqb other p) xs ≡ false
none_any p [] none = refl
none_any p (x ∷ xs) none =
    let P : Bool → Type 0 = λ b. one_where b ≡ 0 → (b || list_any (λ other. eqb other p) xs) ≡ false in
    let go : (b : Bool) → P b = λ b. elim b as (λ v. P v) [ true ↦ (λ one. absurd (omega arith)) | false ↦ (λ zero. none_any p xs (omega arith)) ] in
    go (eqb x p) (omega arith)

-- Places in a ring of n.

-- two places less than a round apart are two places
apart_in_ring : (n at k : ℕ) → 0 < k → k < n → (at + k) % n ≢ at % n
apart_in_ring n at k some few same =
    let r : ℕ = at % n in
    let below : r < n = mod-lt at (omega arith) in
    let sum : (at + k) % n ≡ (r + k) % n = add-mod at k n ∙ ap (λ j. (r + j) % n) (mod-eq_of_lt few) in
    elim (cases_lt (r + k) n) [
      | inl within ↦ let whole : (r + k) % n ≡ r + k = mod-eq_of_lt within in omega arith
      | inr over ↦
          let left : r + k ≡ (r + k - n) + n = omega arith in
          let less : (r + k) % n ≡ r + k - n = ap (λ j. j % n) left ∙ add-mod_right (r + k - n) n ∙ mod-eq_of_lt (omega arith) in
          omega arith
    ]

-- so a place less than a round before another is another place
pub apart_before : (n k at : ℕ) → k < at → at < k + n → k % n ≢ at % n
apart_before n k at below few same =
    let sum : k + (at - k) ≡ at = omega arith in
    apart_in_ring n k (at - k) (omega arith) (omega arith) (ap (λ i. i % n) sum ∙ sym same)
