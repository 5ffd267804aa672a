-- Lists of numbers that rise.
use Rattle.std.proofs.Common.{◌≡◌, ◌≢◌, ℕ, zero, suc, ◌+◌, ◌<◌, ◌≤◌, eqb, ltb, Bool, true, false, cond, List, [], ◌∷◌, ◌++◌, sym, refl, ap, ◌∙◌, subst, arith}
use mathlib.Core.Logic.{dite}
use native.Mathlib.Decide.{ℕ_discrete}
use Rattle.turnstile.specs.Numbers.{times, once_below, Rises, below, placed, merged}
use Rattle.turnstile.proofs.Sums.{once, times_append, once_more, not_below}

pub rises_wider : (low high high' : ℕ) (xs : List ℕ) → high ≤ high' → Rises low high xs → Rises low high' xs
rises_wider low high high' [] h r = tt
rises_wider low high high' (x ∷ xs) h r = (r.0, omega arith, rises_wider (suc x) high high' xs h r.2)

pub rises_lower : (low low' high : ℕ) (xs : List ℕ) → low' ≤ low → Rises low high xs → Rises low' high xs
rises_lower low low' high [] h r = tt
rises_lower low low' high (x ∷ xs) h r = (omega arith, r.1, r.2)

-- one more at the end
pub rises_more : (low high : ℕ) (xs : List ℕ) → low ≤ high → Rises low high xs → Rises low (suc high) (xs ++ high ∷ [])
rises_more low high [] h r = (h, omega arith, tt)
rises_more low high (x ∷ xs) h r = (r.0, omega arith, rises_more (suc x) high xs (omega arith) r.2)

pub rises_below : (n : ℕ) → Rises 0 n (below n)
rises_below zero = tt
rises_below (suc n) = rises_more 0 n (below n) (omega arith) (rises_below n)

pub times_below : (k n : ℕ) → times k (below n) ≡ once_below k n
times_below k zero = sym (not_below k 0 (omega arith))
times_below k (suc n) = let one : ℕ = cond (eqb n k) 1 0 in let a : times k (below n ++ n ∷ []) ≡ times k (below n) + (one + 0) = times_append k (below n) (n ∷ []) in let b = times_below k n in
    let c : once_below k (suc n) ≡ once_below k n + one = once_more k n in let goal : times k (below n ++ n ∷ []) ≡ once_below k (suc n) = omega arith in goal

times_placed : (k x : ℕ) (ys : List ℕ) → times k (placed x ys) ≡ times k (x ∷ ys)
times_placed k x [] = refl
times_placed k x (y ∷ ys) = let rest = times_placed k x ys in let a : ℕ = cond (eqb x k) 1 0 in let b : ℕ = cond (eqb y k) 1 0 in let after : times k (placed x ys) ≡ a + times k ys = rest in
    let go : (t : Bool) → times k (cond t (x ∷ y ∷ ys) (y ∷ placed x ys)) ≡ a + (b + times k ys) = elim [ true ↦ refl | false ↦ (let goal : b + times k (placed x ys) ≡ a + (b + times k ys) = omega arith in goal) ] in go (ltb x y)

pub times_merged : (k : ℕ) (xs ys : List ℕ) → times k (merged xs ys) ≡ times k xs + times k ys
times_merged k [] ys = omega arith
times_merged k (x ∷ xs) ys = let rest = times_merged k xs ys in let a : ℕ = cond (eqb x k) 1 0 in let put : times k (placed x (merged xs ys)) ≡ a + times k (merged xs ys) = times_placed k x (merged xs ys) in
    let goal : times k (placed x (merged xs ys)) ≡ (a + times k xs) + times k ys = omega arith in goal

less : (x y : ℕ) → ltb x y ≡ true → suc x ≤ y
less x y e = grind arith

more : (x y : ℕ) → y ≢ x → ltb x y ≡ false → suc y ≤ x
more x y ne e = grind arith

-- a number that is not in a rising list, put in its place
rises_placed : (low high x : ℕ) (ys : List ℕ) → low ≤ x → x < high → times x ys ≡ 0 → Rises low high ys → Rises low high (placed x ys)
rises_placed low high x [] l h none r = (l, h, tt)
rises_placed low high x (y ∷ ys) l h none r =
    dite (ℕ_discrete y x) (λ e. let one : ℕ = cond (eqb y x) 1 0 in let is : one ≡ 1 = subst (λ z. ◌≡◌ {A = ℕ} (cond (eqb y z) 1 0) 1) e (once y) in let at : one + times x ys ≡ 0 = none in absurd (omega arith))
    (λ ne. let one : ℕ = cond (eqb y x) 1 0 in let at : one + times x ys ≡ 0 = none in let rest : times x ys ≡ 0 = omega arith in
    let go : (t : Bool) → ltb x y ≡ t → Rises low high (cond t (x ∷ y ∷ ys) (y ∷ placed x ys)) = elim [ true ↦ (λ is. (l, h, (less x y is, r.1, r.2))) | false ↦ (λ is. (r.0, r.1, rises_placed (suc y) high x ys (more x y ne is) h rest r.2)) ] in go (ltb x y) refl)

-- two rising lists that share no number
pub rises_merged : (low high : ℕ) (xs ys : List ℕ) → ((k : ℕ) → times k xs + times k ys ≤ 1) → Rises low high xs → Rises low high ys → Rises low high (merged xs ys)
rises_merged low high [] ys apart r q = q
rises_merged low high (x ∷ xs) ys apart r q =
    let one : ℕ = cond (eqb x x) 1 0 in let is : one ≡ 1 = once x in let at : (one + times x xs) + times x ys ≤ 1 = apart x in let sum : times x (merged xs ys) ≡ times x xs + times x ys = times_merged x xs ys in
    let none : times x (merged xs ys) ≡ 0 = omega arith in
    rises_placed low high x (merged xs ys) r.0 r.1 none (rises_merged low high xs ys (λ k. let a : ℕ = cond (eqb x k) 1 0 in let both : (a + times k xs) + times k ys ≤ 1 = apart k in omega arith) (rises_lower (suc x) low high xs (omega arith) r.2) q)

is_less : (x y : ℕ) → suc x ≤ y → ltb x y ≡ true
is_less x y h = grind arith

placed_first : (x high : ℕ) (ys : List ℕ) → Rises (suc x) high ys → placed x ys ≡ x ∷ ys
placed_first x high [] r = refl
placed_first x high (y ∷ ys) r = ap (λ b. cond b (x ∷ y ∷ ys) (y ∷ placed x ys)) (is_less x y r.0)

pub merged_none : (low high : ℕ) (xs : List ℕ) → Rises low high xs → merged xs [] ≡ xs
merged_none low high [] r = refl
merged_none low high (x ∷ xs) r = ap (placed x) (merged_none (suc x) high xs r.2) ∙ placed_first x high xs r.2
