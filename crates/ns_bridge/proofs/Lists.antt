-- A list that is changed place by place.
use Rattle.std.proofs.Common.{◌≡◌, ℕ, zero, suc, ◌+◌, ◌<◌, List, [], ◌∷◌, ◌++◌, length, map, take, drop, Some, None, refl, ap, arith, add-one}
use Rattle.std.specs.Prelude.{slice_get}
use Rattle.std.specs.Option.{option_map}
use Rattle.kernel_types.specs.Objects.{map_at, set_if}

-- the place in a longer list
pub at_suc : {X : Type 0} (f : X → X) (x : X) (xs : List X) (k : ℕ) → map_at f (x ∷ xs) (suc k) ≡ x ∷ map_at f xs k
at_suc f x xs k = elim (option_map f (slice_get xs k)) as (λ o. set_if (x ∷ xs) (suc k) o ≡ x ∷ set_if xs k o) [ None ↦ refl | Some y ↦ refl ]

mapped_suc : {X : Type 0} (f : X → X) (xs : List X) (k : ℕ) → k < length xs → map_at f (map f (take k xs) ++ drop k xs) k ≡ map f (take (suc k) xs) ++ drop (suc k) xs
mapped_suc f [] k h = absurd (omega arith)
mapped_suc f (x ∷ xs) zero h = refl
mapped_suc f (x ∷ xs) (suc k) h = rw (at_suc f (f x) (map f (take k xs) ++ drop k xs) k) (ap (λ ys. f x ∷ ys) (mapped_suc f xs k (omega arith)))

-- the items below a place were changed, and then the one there
pub mapped_more : {X : Type 0} (f : X → X) (xs ys : List X) (k : ℕ) → k < length xs → ys ≡ map f (take k xs) ++ drop k xs
    → map_at f ys k ≡ map f (take (k + 1) xs) ++ drop (k + 1) xs
mapped_more f xs ys k h is = rw (is, add-one) (mapped_suc f xs k h)
