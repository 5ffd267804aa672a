-- Sums over all views, and how often a number stands in a list.
use Rattle.std.proofs.Common.{◌≡◌, ◌≢◌, ℕ, zero, suc, ◌+◌, ◌<◌, ◌≤◌, eqb, cond, List, [], ◌∷◌, ◌++◌, set, sym, refl, ap, arith, eq-eqb, ne_eqb, add-one}
use mathlib.Core.Option.{some, some-injective, some-ne-none}
use mathlib.Core.Logic.{dite}
use native.Mathlib.Decide.{dec_le, ℕ_discrete}
use lib.ListN.{get_elem?}
use Rattle.turnstile.specs.Numbers.{times, once_below, total}

module _ {A : Type 0} (f : A → ℕ) where
  pub total_set : (xs : List A) (i : ℕ) (x y : A) → get_elem? xs i ≡ some x → total f (set xs i y) + f x ≡ total f xs + f y
  total_set [] i x y e = absurd (some-ne-none x (sym e))
  total_set (z ∷ xs) zero x y e = let same : f z ≡ f x = ap f (some-injective z x e) in omega arith
  total_set (z ∷ xs) (suc i) x y e = let rest = total_set xs i x y e in omega arith

  pub total_at : (xs : List A) (i : ℕ) (x : A) → get_elem? xs i ≡ some x → f x ≤ total f xs
  total_at [] i x e = absurd (some-ne-none x (sym e))
  total_at (z ∷ xs) zero x e = let same : f z ≡ f x = ap f (some-injective z x e) in omega arith
  total_at (z ∷ xs) (suc i) x e = let rest = total_at xs i x e in omega arith

  pub total_two : (xs : List A) (i j : ℕ) (x y : A) → i ≢ j → get_elem? xs i ≡ some x → get_elem? xs j ≡ some y → f x + f y ≤ total f xs
  total_two [] i j x y ne e d = absurd (some-ne-none x (sym e))
  total_two (z ∷ xs) zero zero x y ne e d = absurd (ne refl)
  total_two (z ∷ xs) zero (suc j) x y ne e d = let same : f z ≡ f x = ap f (some-injective z x e) in let rest = total_at xs j y d in omega arith
  total_two (z ∷ xs) (suc i) zero x y ne e d = let same : f z ≡ f y = ap f (some-injective z y d) in let rest = total_at xs i x e in omega arith
  total_two (z ∷ xs) (suc i) (suc j) x y ne e d = let rest = total_two xs i j x y (λ q. ne (ap suc q)) e d in omega arith

  pub total_more : (xs : List A) (y : A) → total f (xs ++ y ∷ []) ≡ total f xs + f y
  total_more [] y = omega arith
  total_more (z ∷ xs) y = let rest = total_more xs y in omega arith

  pub total_none : (xs : List A) → ((j : ℕ) (y : A) → get_elem? xs j ≡ some y → f y ≡ 0) → total f xs ≡ 0
  total_none [] h = refl
  total_none (z ∷ xs) h = let here : f z ≡ 0 = h zero z refl in let rest = total_none xs (λ j y e. h (suc j) y e) in omega arith

  -- where f is 0 of all but one
  pub total_alone : (xs : List A) (i : ℕ) (x : A) → get_elem? xs i ≡ some x → ((j : ℕ) (y : A) → j ≢ i → get_elem? xs j ≡ some y → f y ≡ 0) → total f xs ≡ f x
  total_alone [] i x e h = absurd (some-ne-none x (sym e))
  total_alone (z ∷ xs) zero x e h = let same : f z ≡ f x = ap f (some-injective z x e) in let rest = total_none xs (λ j y d. h (suc j) y (λ q. omega arith) d) in omega arith
  total_alone (z ∷ xs) (suc i) x e h = let here : f z ≡ 0 = h zero z (λ q. omega arith) refl in let rest = total_alone xs i x e (λ j y ne d. h (suc j) y (λ q. ne (omega arith)) d) in omega arith

pub once : (k : ℕ) → ◌≡◌ {A = ℕ} (cond (eqb k k) 1 0) 1
once k = ap (λ b. cond b 1 0) (eq-eqb k k refl)

pub never : (n k : ℕ) → n ≢ k → ◌≡◌ {A = ℕ} (cond (eqb n k) 1 0) 0
never n k ne = ap (λ b. cond b 1 0) (ne_eqb n k ne)

pub times_append : (k : ℕ) (xs ys : List ℕ) → times k (xs ++ ys) ≡ times k xs + times k ys
times_append k [] ys = omega arith
times_append k (x ∷ xs) ys = let rest = times_append k xs ys in let here : ℕ = cond (eqb x k) 1 0 in let goal : here + times k (xs ++ ys) ≡ (here + times k xs) + times k ys = omega arith in goal

pub is_below : (k n : ℕ) → k < n → once_below k n ≡ 1
is_below k n h = grind (arith)

pub not_below : (k n : ℕ) → n ≤ k → once_below k n ≡ 0
not_below k n h = grind (arith)

pub at_most_once : (k n : ℕ) → once_below k n ≤ 1
at_most_once k n = dite (dec_le n k) (λ h. let e = not_below k n h in omega arith) (λ h. let e = is_below k n (omega arith) in omega arith)

pub once_more : (k n : ℕ) → once_below k (suc n) ≡ once_below k n + cond (eqb n k) 1 0
once_more k n = dite (ℕ_discrete n k)
    (λ e. let a = is_below k (suc n) (omega arith) in let b = not_below k n (omega arith) in let one : ℕ = cond (eqb n k) 1 0 in let is : one ≡ 1 = ap (λ t. cond t 1 0) (eq-eqb n k e) in let goal : once_below k (suc n) ≡ once_below k n + one = omega arith in goal)
    (λ ne. let one : ℕ = cond (eqb n k) 1 0 in let is : one ≡ 0 = never n k ne in
    let goal : once_below k (suc n) ≡ once_below k n + one = dite (dec_le n k) (λ h. let a = not_below k (suc n) (omega arith) in let b = not_below k n h in omega arith) (λ h. let a = is_below k (suc n) (omega arith) in let b = is_below k n (omega arith) in omega arith) in goal)

pub once_next : (k n : ℕ) → once_below k (n + 1) ≡ once_below k n + cond (eqb n k) 1 0
once_next k n = rw add-one (once_more k n)

pub once_within : (k n m : ℕ) → n ≤ m → once_below k n ≤ once_below k m
once_within k n m h = dite (dec_le n k) (λ far. let z = not_below k n far in omega arith) (λ near. let a = is_below k n (omega arith) in let b = is_below k m (omega arith) in omega arith)
