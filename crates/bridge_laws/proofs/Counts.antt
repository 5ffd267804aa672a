-- How often a number stands in a list, as some field of its items.
use Rattle.std.proofs.Common.{◌≡◌, ◌≤◌, ◌<◌, ℕ, ◌+◌, ◌==◌, Bool, true, false, cond, not, List, [], ◌∷◌, ◌++◌, map, refl, ap, ◌∙◌, subst, sym, arith, tests}
use Rattle.std.specs.List.{AllByRecursion, count_by, filter}
use Rattle.std.proofs.lemmas.List.Sums.{sum_by-append, sum_by-cons}

abbrev pub one_if : Bool → ℕ
one_if b = cond b 1 0

abbrev pub times : {X : Type 0} → (X → ℕ) → ℕ → List X → ℕ
times f n xs = count_by (λ x. f x == n) xs

module _ {X : Type 0} (f : X → ℕ) where
  pub times_cons : (n : ℕ) (x : X) (xs : List X) → times f n (x ∷ xs) ≡ one_if (f x == n) + times f n xs
  times_cons n x xs = sum_by-cons (λ y. one_if (f y == n)) x xs

  pub times_append : (n : ℕ) (xs ys : List X) → times f n (xs ++ ys) ≡ times f n xs + times f n ys
  times_append n xs ys = sum_by-append (λ y. one_if (f y == n)) xs ys

  pub times_inserted : (n : ℕ) (x : X) (front back : List X) → times f n (front ++ x ∷ back) ≡ one_if (f x == n) + times f n (front ++ back)
  times_inserted n x front back = omega (arith, times_append n front (x ∷ back), times_cons n x back, times_append n front back)

  pub times_fewer : (p : X → Bool) (n : ℕ) (xs : List X) → times f n (filter p xs) ≤ times f n xs
  times_fewer p n [] = omega arith
  times_fewer p n (x ∷ xs) =
      let rest : times f n (filter p xs) ≤ times f n xs = times_fewer p n xs in
      elim (p x) as (λ b. times f n (cond b (x ∷ filter p xs) (filter p xs)) ≤ times f n (x ∷ xs)) [
        | true ↦ omega (arith, rest, times_cons n x (filter p xs), times_cons n x xs)
        | false ↦ omega (arith, rest, times_cons n x xs)
      ]

  pub times_mapped : (h : X → X) → ((x : X) → f (h x) ≡ f x) → (n : ℕ) (xs : List X) → times f n (map h xs) ≡ times f n xs
  times_mapped h keeps n [] = refl
  times_mapped h keeps n (x ∷ xs) =
      let first : one_if (f (h x) == n) ≡ one_if (f x == n) = ap (λ (m : ℕ). one_if (m == n)) (keeps x) in
      omega (arith, first, times_mapped h keeps n xs, times_cons n (h x) (map h xs), times_cons n x xs)

  -- those that have the number go
  pub times_gone : (n : ℕ) (xs : List X) → times f n (filter (λ x. not (f x == n)) xs) ≡ 0
  times_gone n [] = refl
  times_gone n (x ∷ xs) =
      let rest : List X = filter (λ y. not (f y == n)) xs in
      let none : times f n rest ≡ 0 = times_gone n xs in
      let P : Bool → Type 0 = λ b. (f x == n) ≡ b → times f n (cond (not b) (x ∷ rest) rest) ≡ 0 in
      let go : (b : Bool) → P b = λ b. elim b as (λ v. P v) [
        | true ↦ (λ is. none)
        | false ↦ (λ is. let first : one_if (f x == n) ≡ 0 = ap one_if is in omega (arith, none, first, times_cons n x rest))
      ] in
      go (f x == n) refl

  -- and the others stay
  pub times_apart : (n m : ℕ) (xs : List X) → (m == n) ≡ false → times f n (filter (λ x. not (f x == m)) xs) ≡ times f n xs
  times_apart n m [] differs = refl
  times_apart n m (x ∷ xs) differs =
      let rest : List X = filter (λ y. not (f y == m)) xs in
      let same : times f n rest ≡ times f n xs = times_apart n m xs differs in
      let P : Bool → Type 0 = λ b. (f x == m) ≡ b → times f n (cond (not b) (x ∷ rest) rest) ≡ times f n (x ∷ xs) in
      let go : (b : Bool) → P b = λ b. elim b as (λ v. P v) [
        | true ↦ (λ is.
            let is_m : f x ≡ m = grind (arith, tests) in
            let other : (f x == n) ≡ false = ap (λ (k : ℕ). k == n) is_m ∙ differs in
            let first : one_if (f x == n) ≡ 0 = ap one_if other in
            omega (arith, same, first, times_cons n x xs))
        | false ↦ (λ is. omega (arith, same, times_cons n x rest, times_cons n x xs))
      ] in
      go (f x == m) refl

  -- where none has the number, all stay
  pub all_apart : (n : ℕ) (xs : List X) → times f n xs ≡ 0 → filter (λ x. not (f x == n)) xs ≡ xs
  all_apart n [] none = refl
  all_apart n (x ∷ xs) none =
      let both : one_if (f x == n) + times f n xs ≡ 0 = sym (times_cons n x xs) ∙ none in
      let rest : filter (λ y. not (f y == n)) xs ≡ xs = all_apart n xs (omega (arith, both)) in
      let P : Bool → Type 0 = λ b. (f x == n) ≡ b → cond (not b) (x ∷ filter (λ y. not (f y == n)) xs) (filter (λ y. not (f y == n)) xs) ≡ x ∷ xs in
      let go : (b : Bool) → P b = λ b. elim b as (λ v. P v) [
        | true ↦ (λ is. let one : one_if (f x == n) ≡ 1 = ap one_if is in absurd (omega (arith, both, one)))
        | false ↦ (λ is. ap (λ (l : List X). x ∷ l) rest)
      ] in
      go (f x == n) refl

-- a number that is at least the bound stands nowhere below it
pub times_below : (n : ℕ) (xs : List ℕ) → AllByRecursion (λ (x : ℕ). x < n) xs → times (λ x. x) n xs ≡ 0
times_below n [] below = refl
times_below n (x ∷ xs) below =
    let other : (x == n) ≡ false = grind (arith, tests, below.0) in
    let first : one_if (x == n) ≡ 0 = ap one_if other in
    omega (arith, first, times_below n xs below.1, times_cons (λ y. y) n x xs)
