-- Lists of numbers: how often a number stands in them, and those that rise.
use Rattle.std.specs.Prelude.{ℕ, zero, suc, ◌+◌, ◌<◌, ◌≤◌, ◌==◌, nat_lt, List, [], ◌∷◌, ◌++◌, cond}

-- how often k stands in the list
abbrev pub times : ℕ → List ℕ → ℕ
times k [] = 0
times k (x ∷ xs) = cond (x == k) 1 0 + times k xs

-- how often k stands among the numbers below n: once if it is below n, else never
abbrev pub once_below : ℕ → ℕ → ℕ
once_below k n = cond (nat_lt k n) 1 0

-- f of each, added up
abbrev pub total : {A : Type 0} → (A → ℕ) → List A → ℕ
total f [] = 0
total f (x ∷ xs) = f x + total f xs

-- the first is at least `low`, each one is greater than the one before it, and all are below `high`
abbrev pub Rises : ℕ → ℕ → List ℕ → Type 0
Rises low high [] = Unit {0}
Rises low high (x ∷ xs) = (low ≤ x) × (x < high) × Rises (suc x) high xs

-- the numbers below n
abbrev pub below : ℕ → List ℕ
below zero = []
below (suc n) = below n ++ n ∷ []

-- x, put before the first greater number of a rising list
abbrev pub placed : ℕ → List ℕ → List ℕ
placed x [] = x ∷ []
placed x (y ∷ ys) = cond (nat_lt x y) (x ∷ y ∷ ys) (y ∷ placed x ys)

-- the numbers of both lists, rising where both rise
abbrev pub merged : List ℕ → List ℕ → List ℕ
merged [] ys = ys
merged (x ∷ xs) ys = placed x (merged xs ys)
