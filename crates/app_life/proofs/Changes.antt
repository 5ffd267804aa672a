-- One item of a list after another is changed.
use Rattle.std.proofs.Common.{◌≡◌, ℕ, ◌+◌, zero, suc, List, [], ◌∷◌, ◌++◌, length, map, take, drop, Some, None, refl, ap, add-one}
use Rattle.std.specs.Prelude.{slice_get, option_map}
use Rattle.kernel_types.specs.Objects.{map_at, set_if}

module _ {X : Type 0} (f : X → X) where
  pub later : (y : X) (ys : List X) (i : ℕ) → map_at f (y ∷ ys) (suc i) ≡ y ∷ map_at f ys i
  later y ys i = elim (slice_get ys i) as (λ o. set_if (y ∷ ys) (suc i) (option_map f o) ≡ y ∷ set_if ys i (option_map f o)) [ None ↦ refl | Some x ↦ refl ]

  more : (xs : List X) (i : ℕ) → map_at f (map f (take i xs) ++ drop i xs) i ≡ map f (take (suc i) xs) ++ drop (suc i) xs
  more [] zero = refl
  more [] (suc i) = refl
  more (x ∷ xs) zero = refl
  more (x ∷ xs) (suc i) = rw later (ap (λ ys. f x ∷ ys) (more xs i))

  -- the items before the place were changed, and now the one at the place is
  pub changed_more : (xs : List X) (i : ℕ) → map_at f (map f (take i xs) ++ drop i xs) i ≡ map f (take (i + 1) xs) ++ drop (i + 1) xs
  changed_more xs i = rw add-one (more xs i)

  pub length-changed : (xs : List X) (i : ℕ) → length (map_at f xs i) ≡ length xs
  length-changed [] i = refl
  length-changed (x ∷ xs) zero = refl
  length-changed (x ∷ xs) (suc i) = rw (later x xs i) (ap suc (length-changed xs i))
