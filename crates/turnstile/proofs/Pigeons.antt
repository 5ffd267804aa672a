-- As many different numbers below a bound as the bound are all of them.
use Rattle.std.proofs.Common.{◌≡◌, ◌≢◌, ℕ, zero, suc, ◌+◌, ◌<◌, ◌≤◌, eqb, cond, List, [], ◌∷◌, length, sym, refl, ap, ◌∙◌, arith}
use mathlib.Core.Logic.{dite}
use native.Mathlib.Decide.{ℕ_discrete}
use Rattle.turnstile.specs.Numbers.{times, once_below}
use Rattle.turnstile.proofs.Sums.{once, never, not_below, once_more, at_most_once}

-- f of each number below n, added up
abbrev summed : (ℕ → ℕ) → ℕ → ℕ
summed f zero = 0
summed f (suc n) = summed f n + f n

summed_none : (n : ℕ) → summed (λ k. times k []) n ≡ 0
summed_none zero = refl
summed_none (suc n) = let rest = summed_none n in omega arith

summed_one : (x n : ℕ) → summed (λ k. cond (eqb x k) 1 0) n ≡ once_below x n
summed_one x zero = sym (not_below x 0 (omega arith))
summed_one x (suc n) = let rest = summed_one x n in let one : ℕ = cond (eqb x n) 1 0 in let other : ℕ = cond (eqb n x) 1 0 in
    let same : one ≡ other = dite (ℕ_discrete x n) (λ e. let a : other ≡ 1 = ap (λ b. cond b 1 0) (Rattle.std.proofs.Common.eq-eqb n x (sym e)) in let b : one ≡ 1 = ap (λ b. cond b 1 0) (Rattle.std.proofs.Common.eq-eqb x n e) in omega arith)
    (λ ne. let a : other ≡ 0 = never n x (λ e. ne (sym e)) in let b : one ≡ 0 = never x n ne in omega arith) in
    let step : once_below x (suc n) ≡ once_below x n + other = once_more x n in let goal : summed (λ k. cond (eqb x k) 1 0) n + one ≡ once_below x (suc n) = omega arith in goal

summed_both : (x : ℕ) (xs : List ℕ) (n : ℕ) → summed (λ k. times k (x ∷ xs)) n ≡ summed (λ k. cond (eqb x k) 1 0) n + summed (λ k. times k xs) n
summed_both x xs zero = refl
summed_both x xs (suc n) = let rest = summed_both x xs n in let one : ℕ = cond (eqb x n) 1 0 in
    let goal : summed (λ k. times k (x ∷ xs)) n + (one + times n xs) ≡ (summed (λ k. cond (eqb x k) 1 0) n + one) + (summed (λ k. times k xs) n + times n xs) = omega arith in goal

-- numbers that are below n, and none twice, are as many as there are of each
counts_all : (xs : List ℕ) (n : ℕ) → ((k : ℕ) → times k xs ≤ once_below k n) → summed (λ k. times k xs) n ≡ length xs
counts_all [] n h = summed_none n
counts_all (x ∷ xs) n h =
    let rest = counts_all xs n (λ k. let one : ℕ = cond (eqb x k) 1 0 in let both : one + times k xs ≤ once_below k n = h k in omega arith) in
    let split = summed_both x xs n in let ones = summed_one x n in let one : ℕ = cond (eqb x x) 1 0 in let is : one ≡ 1 = once x in let here : one + times x xs ≤ once_below x n = h x in let most = at_most_once x n in
    let goal : summed (λ k. times k (x ∷ xs)) n ≡ suc (length xs) = omega arith in goal

few : (f : ℕ → ℕ) (n : ℕ) → ((k : ℕ) → f k ≤ 1) → summed f n ≤ n
few f zero h = omega arith
few f (suc n) h = let rest = few f n h in let here = h n in omega arith

each_is_one : (f : ℕ → ℕ) (n k : ℕ) → ((k : ℕ) → f k ≤ 1) → n ≤ summed f n → k < n → f k ≡ 1
each_is_one f zero k h all low = absurd (omega arith)
each_is_one f (suc n) k h all low = let rest = few f n h in let here = h n in
    dite (ℕ_discrete n k) (λ e. ap f (sym e) ∙ (let full : summed f n + f n ≡ suc n = omega arith in omega arith)) (λ ne. each_is_one f n k h (omega arith) (omega arith))

pub pigeons : (xs : List ℕ) (n k : ℕ) → n ≤ length xs → ((k : ℕ) → times k xs ≤ once_below k n) → k < n → times k xs ≡ 1
pigeons xs n k many h low = let all = counts_all xs n h in each_is_one (λ k. times k xs) n k (λ j. let a = h j in let b = at_most_once j n in omega arith) (omega arith) low
