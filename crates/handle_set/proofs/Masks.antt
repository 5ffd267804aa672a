-- The bits of a list of marks, after an edit of the list.
use Rattle.std.proofs.Common.{◌≡◌, ℕ, zero, suc, ◌+◌, ◌*◌, ◌/◌, ◌%◌, ◌^◌, ◌<◌, ◌≤◌, ◌==◌, Bool, true, false, not, cond, ◌||◌, ◌≢◌, bit_and, bit_or, List, [], ◌∷◌, ◌++◌, length, map, take, drop, get_or, Some, None, refl, sym, ap, ◌∙◌, arith, length-set, set, lit<, inl, inr}
use Rattle.std.specs.List.{remove, list_any, position_or_len, find}
use Rattle.std.proofs.lemmas.List.{length-take-le, get_or-set_same, get_or-set_other}
use Rattle.std.proofs.lemmas.Nat.{mod-mul-add, div-mul-add, and_le_l}
use Rattle.std.proofs.lemmas.Bool.{cases_lt}
use Rattle.std.proofs.lemmas.Nat.Bits.{bit_at_set_same, bit_at_set_other, bit_at_clear_same, bit_at_clear_other, same_from_bits, same_from_bits_below}
use Rattle.std.proofs.lemmas.Simd.{mask_l-lt, bit_mask_l}
use Rattle.std.proofs.Math.Nat.{two-pow-succ, pow-le-pow_right, one-le-pow}
use Rattle.std.specs.Int.{w64, bit_at, bit_not}
use Rattle.std.proofs.lemmas.Bool.Decides.{nat_tests}
use lib.Lanes.{mask_l}

pub mask_append : (xs ys : List Bool) → mask_l (xs ++ ys) ≡ mask_l xs + 2 ^ length xs * mask_l ys
mask_append [] ys = omega arith
mask_append (x ∷ xs) ys = rw (two-pow-succ (length xs)) (omega (arith, mask_append xs ys))

bit : Bool → ℕ
bit b = cond b 1 0

half_bit : (b : Bool) (n : ℕ) → (cond b 1 0 + 2 * n) / 2 ≡ n
half_bit true n = omega arith
half_bit false n = omega arith

-- a mark taken out
removed : (low rest : List Bool) (b : Bool) → mask_l (low ++ rest) ≡ mask_l (low ++ b ∷ rest) % 2 ^ length low + mask_l (low ++ b ∷ rest) / 2 ^ length low / 2 * 2 ^ length low
removed low rest b =
    let less = mask_l-lt low in
    let whole : mask_l (low ++ b ∷ rest) ≡ (cond b 1 0 + 2 * mask_l rest) * 2 ^ length low + mask_l low = omega (arith, mask_append low (b ∷ rest)) in
    let under : mask_l (low ++ b ∷ rest) % 2 ^ length low ≡ mask_l low = rw whole (mod-mul-add (cond b 1 0 + 2 * mask_l rest) (2 ^ length low) (mask_l low) less) in
    let over : mask_l (low ++ b ∷ rest) / 2 ^ length low ≡ cond b 1 0 + 2 * mask_l rest = rw whole (div-mul-add (cond b 1 0 + 2 * mask_l rest) (2 ^ length low) (mask_l low) less) in
    rw (under, over, half_bit b (mask_l rest)) (omega (arith, mask_append low rest))

split_at : {X : Type 0} (xs : List X) (at : ℕ) (d : X) → at < length xs → take at xs ++ get_or xs at d ∷ drop (suc at) xs ≡ xs
split_at [] at d within = absurd (omega arith)
split_at (x ∷ xs) zero d within = refl
split_at (x ∷ xs) (suc at) d within = ap (λ ys. x ∷ ys) (split_at xs at d (omega arith))

pub mask_remove : (ms : List Bool) (at : ℕ) → at < length ms → mask_l (remove ms at) ≡ mask_l ms % 2 ^ at + mask_l ms / 2 ^ at / 2 * 2 ^ at
mask_remove ms at within =
    let whole = split_at ms at false within in
    let long = length-take-le at ms (omega arith) in
    let is = removed (take at ms) (drop (suc at) ms) (get_or ms at false) in
    rw (whole, long) at is

pub mask_push : (ms : List Bool) (b : Bool) → mask_l (ms ++ b ∷ []) ≡ mask_l ms + cond b 1 0 * 2 ^ length ms
mask_push ms b = omega (arith, mask_append ms (b ∷ []))

-- the place of the first mark is below the length, where a bit is set
pub first_within : {X : Type 0} (p : X → Bool) (xs : List X) → 0 < mask_l (map p xs) → position_or_len p xs < length xs
first_within p [] some = absurd (omega arith)
first_within p (x ∷ xs) some = by_test (p x) some (first_within p xs)
  where
    by_test : (b : Bool) → 0 < cond b 1 0 + 2 * mask_l (map p xs) → (0 < mask_l (map p xs) → position_or_len p xs < length xs) → cond (not b) (1 + position_or_len p xs) 0 < suc (length xs)
    by_test true more rest = omega arith
    by_test false more rest = omega (arith, rest (omega arith))

pub none_set : {X : Type 0} (p : X → Bool) (xs : List X) → mask_l (map p xs) ≡ 0 → find p xs ≡ None
none_set p [] is = refl
none_set p (x ∷ xs) is = by_test (p x) is (none_set p xs)
  where
    by_test : (b : Bool) → cond b 1 0 + 2 * mask_l (map p xs) ≡ 0 → (mask_l (map p xs) ≡ 0 → find p xs ≡ None) → cond b (Some x) (find p xs) ≡ None
    by_test true less rest = absurd (omega arith)
    by_test false less rest = rest (omega arith)

double : (n : ℕ) → ((0 + 2 * n) == 0) ≡ (n == 0)
double n = grind (arith, nat_tests)

odd : (n : ℕ) → ((1 + 2 * n) == 0) ≡ false
odd n = grind (arith, nat_tests)

pub any_set : {X : Type 0} (p : X → Bool) (xs : List X) → not (mask_l (map p xs) == 0) ≡ list_any p xs
any_set p [] = refl
any_set p (x ∷ xs) = by_test (p x) (any_set p xs)
  where
    by_test : (b : Bool) → not (mask_l (map p xs) == 0) ≡ list_any p xs → not ((cond b 1 0 + 2 * mask_l (map p xs)) == 0) ≡ (b || list_any p xs)
    by_test true rest = rw (odd (mask_l (map p xs))) refl
    by_test false rest = rw (double (mask_l (map p xs))) rest

-- as many bits as there are marks fit
pub pow_fits : (len n : ℕ) → n < 2 ^ len → len ≤ 64 → n < 2 ^ 64
pow_fits len n less few = let more : 2 ^ len ≤ 2 ^ 64 = pow-le-pow_right (lit< tt) few in omega arith

pub mask_fits : (ms : List Bool) → length ms ≤ 64 → mask_l ms < 2 ^ 64
mask_fits ms few = pow_fits (length ms) (mask_l ms) (mask_l-lt ms) few

mod_less : (n : ℕ) → n < 2 ^ 64 → n % 2 ^ 64 ≡ n
mod_less n less = omega arith

one-mul : (n : ℕ) → 1 * n ≡ n
one-mul n = omega arith

pub pow_below : (at : ℕ) → at < 64 → 1 * 2 ^ at % 2 ^ 64 ≡ 2 ^ at
pow_below at within =
    let more : 2 ^ suc at ≤ 2 ^ 64 = pow-le-pow_right (lit< tt) {i = suc at} {j = 64} (omega arith) in
    let twice = two-pow-succ at in
    let some = one-le-pow at 2 (lit< tt) in
    let less : 2 ^ at < 2 ^ 64 = omega arith in
    rw one-mul (mod_less (2 ^ at) less)

and_fits : (n m : ℕ) → n < 2 ^ 64 → bit_and n m < 2 ^ 64
and_fits n m less = let most = and_le_l n m in omega arith

-- a mark changed
pub mask_mark : (ms : List Bool) (at : ℕ) → at < length ms → length ms ≤ 64 → bit_or (mask_l ms) (1 * 2 ^ at % 2 ^ 64) ≡ mask_l (set ms at true)
mask_mark ms at within few = same_from_bits _ _ (λ i. elim (cases_lt i at) [
  | inl low ↦ other i (omega arith)
  | inr high ↦ elim (cases_lt at i) [
    | inl above ↦ other i (omega arith)
    | inr below ↦ here i (omega arith)
  ]
])
  where
    other : (i : ℕ) → i ≢ at → bit_at (bit_or (mask_l ms) (1 * 2 ^ at % 2 ^ 64)) i ≡ bit_at (mask_l (set ms at true)) i
    other i differs = bit_at_set_other w64 (mask_l ms) at (omega arith) i differs ∙ bit_mask_l ms i ∙ ap (λ b. cond b 1 0) (sym (get_or-set_other ms at i true false differs)) ∙ sym (bit_mask_l (set ms at true) i)

    here : (i : ℕ) → i ≡ at → bit_at (bit_or (mask_l ms) (1 * 2 ^ at % 2 ^ 64)) i ≡ bit_at (mask_l (set ms at true)) i
    here i same = rw same (bit_at_set_same w64 (mask_l ms) at (omega arith) ∙ ap (λ b. cond b 1 0) (sym (get_or-set_same ms at true false within)) ∙ sym (bit_mask_l (set ms at true) at))

pub mask_unmark : (ms : List Bool) (at : ℕ) → at < length ms → length ms ≤ 64 → bit_and (mask_l ms) (bit_not w64 (1 * 2 ^ at % 2 ^ 64)) ≡ mask_l (set ms at false)
mask_unmark ms at within few = same_from_bits_below 64 _ _ (and_fits (mask_l ms) _ (mask_fits ms few)) (mask_fits (set ms at false) (omega (arith, length-set ms at false))) (λ i low_i. elim (cases_lt i at) [
  | inl low ↦ other i low_i (omega arith)
  | inr high ↦ elim (cases_lt at i) [
    | inl above ↦ other i low_i (omega arith)
    | inr below ↦ here i (omega arith)
  ]
])
  where
    other : (i : ℕ) → i < 64 → i ≢ at → bit_at (bit_and (mask_l ms) (bit_not w64 (1 * 2 ^ at % 2 ^ 64))) i ≡ bit_at (mask_l (set ms at false)) i
    other i low differs = bit_at_clear_other w64 (mask_l ms) at (omega arith) i low differs ∙ bit_mask_l ms i ∙ ap (λ b. cond b 1 0) (sym (get_or-set_other ms at i false false differs)) ∙ sym (bit_mask_l (set ms at false) i)

    here : (i : ℕ) → i ≡ at → bit_at (bit_and (mask_l ms) (bit_not w64 (1 * 2 ^ at % 2 ^ 64))) i ≡ bit_at (mask_l (set ms at false)) i
    here i same = rw same (bit_at_clear_same w64 (mask_l ms) at (omega arith) ∙ ap (λ b. cond b 1 0) (sym (get_or-set_same ms at false false within)) ∙ sym (bit_mask_l (set ms at false) at))
