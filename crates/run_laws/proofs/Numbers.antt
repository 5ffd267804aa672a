-- Ranges of numbers: the first that passes a test, and those that a test keeps.
use Rattle.std.proofs.Common.{◌≡◌, ℕ, suc, ◌+◌, ◌-◌, ◌<◌, ◌≤◌, zero, Bool, true, false, [], ◌∷◌, ◌++◌, Some, None, refl, ap, arith, subst}
use Rattle.std.proofs.Common.{inl, inr}
use Rattle.std.proofs.lemmas.Bool.{cases_eq}
use Rattle.std.specs.List.{find, filter, range_with_len}

range_step : (a n : ℕ) → a < n → range_with_len a (n - a) ≡ a ∷ range_with_len (a + 1) (n - (a + 1))
range_step a n h = let e : n - a ≡ suc (n - (a + 1)) = omega arith in rw e refl

pub number_found : (p : ℕ → Bool) (a n : ℕ) → a < n → p a ≡ true → find p (range_with_len a (n - a)) ≡ Some a
number_found p a n h t = rw (range_step a n h, t) refl

pub number_passed : (p : ℕ → Bool) (a n : ℕ) → a < n → p a ≡ false → find p (range_with_len a (n - a)) ≡ find p (range_with_len (a + 1) (n - (a + 1)))
number_passed p a n h t = rw (range_step a n h, t) refl

pub numbers_end : (p : ℕ → Bool) (a n : ℕ) → n ≤ a → find p (range_with_len a (n - a)) ≡ None
numbers_end p a n h = let e : n - a ≡ zero = omega arith in rw e refl

pub range_split : (a n m : ℕ) → range_with_len a (n + m) ≡ range_with_len a n ++ range_with_len (a + n) m
range_split a zero m =
    let e : zero + m ≡ m = omega arith in
    let f : a + zero ≡ a = omega arith in
    rw (e, f) refl
range_split a (suc n) m =
    let e : suc n + m ≡ suc (n + m) = omega arith in
    let f : a + suc n ≡ (a + 1) + n = omega arith in
    rw (e, f) (ap (λ ks. a ∷ ks) (range_split (a + 1) n m))

pub filter_all : (q : ℕ → Bool) (a n : ℕ) → ((k : ℕ) → a ≤ k → k < a + n → q k ≡ true) → filter q (range_with_len a n) ≡ range_with_len a n
filter_all q a zero h = refl
filter_all q a (suc n) h = rw (h a (omega arith) (omega arith)) (ap (λ ks. a ∷ ks) (filter_all q (a + 1) n (λ k low high. h k (omega (arith, low)) (omega (arith, high)))))

pub filter_none : (q : ℕ → Bool) (a n : ℕ) → ((k : ℕ) → a ≤ k → k < a + n → q k ≡ false) → filter q (range_with_len a n) ≡ []
filter_none q a zero h = refl
filter_none q a (suc n) h = rw (h a (omega arith) (omega arith)) (filter_none q (a + 1) n (λ k low high. h k (omega (arith, low)) (omega (arith, high))))

passed_by : (p : ℕ → Bool) (a n k : ℕ) (b : Bool) → p a ≡ b → find p (range_with_len a (suc n)) ≡ None → a ≤ k
    → (find p (range_with_len (a + 1) n) ≡ None → a + 1 ≤ k → p k ≡ false) → p k ≡ false
passed_by p a n k true is h low rest = absurd (cc (rw is at h))
passed_by p a n k false is h low rest = elim (cases_eq a k) [
  | inl same ↦ subst (λ (j : ℕ). p j ≡ false) same is
  | inr apart ↦ rest (rw is at h) (omega (arith, low, apart))
]

pub passed_all : (p : ℕ → Bool) (a n : ℕ) → find p (range_with_len a n) ≡ None → (k : ℕ) → a ≤ k → k < a + n → p k ≡ false
passed_all p a zero h k low high = absurd (omega arith)
passed_all p a (suc n) h k low high = passed_by p a n k (p a) refl h low (λ g more. passed_all p (a + 1) n g k more (omega (arith, high)))
