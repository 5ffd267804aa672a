-- The first number of a range that passes a test.
use Rattle.std.proofs.Common.{◌≡◌, ℕ, suc, ◌+◌, ◌-◌, ◌<◌, ◌≤◌, zero, Bool, true, false, ◌∷◌, Some, None, refl, arith}
use Rattle.std.specs.List.{find, range_with_len}

range_step : (a n : ℕ) → a < n → range_with_len a (n - a) ≡ a ∷ range_with_len (a + 1) (n - (a + 1))
range_step a n h = let e : n - a ≡ suc (n - (a + 1)) = omega arith in rw e refl

pub number_found : (p : ℕ → Bool) (a n : ℕ) → a < n → p a ≡ true → find p (range_with_len a (n - a)) ≡ Some a
number_found p a n h t = rw (range_step a n h, t) refl

pub number_passed : (p : ℕ → Bool) (a n : ℕ) → a < n → p a ≡ false → find p (range_with_len a (n - a)) ≡ find p (range_with_len (a + 1) (n - (a + 1)))
number_passed p a n h t = rw (range_step a n h, t) refl

pub numbers_end : (p : ℕ → Bool) (a n : ℕ) → n ≤ a → find p (range_with_len a (n - a)) ≡ None
numbers_end p a n h = let e : n - a ≡ zero = omega arith in rw e refl
