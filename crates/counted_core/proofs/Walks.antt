-- Walks over the items of a list, one after the other.
use Rattle.std.proofs.Common.{◌≡◌, ℕ, zero, suc, ◌+◌, ◌≤◌, List, [], ◌∷◌, length, map, Some, None, refl, ◌∙◌, ap, arith}
use Rattle.std.specs.Prelude.{slice_get}
use Rattle.std.specs.Option.{option_map}
use Rattle.kernel_types.specs.Objects.{map_at, set_if}
use Rattle.counted_core.specs.Walking.{mapped_to}

map_at_cons : {X : Type 0} (f : X → X) (x : X) (xs : List X) (at : ℕ) → map_at f (x ∷ xs) (suc at) ≡ x ∷ map_at f xs at
map_at_cons f x xs at =
    elim (option_map f (slice_get xs at)) as (λ o. set_if (x ∷ xs) (suc at) o ≡ x ∷ set_if xs at o) [ None ↦ refl | Some y ↦ refl ]

next_of : {X : Type 0} (f : X → X) (n : ℕ) (xs : List X) → map_at f (mapped_to f n xs) n ≡ mapped_to f (suc n) xs
next_of f zero [] = refl
next_of f zero (x ∷ xs) = refl
next_of f (suc n) [] = refl
next_of f (suc n) (x ∷ xs) = map_at_cons f (f x) (mapped_to f n xs) n ∙ ap (λ l. f x ∷ l) (next_of f n xs)

-- the next item is changed
pub next_mapped : {X : Type 0} (f : X → X) (n : ℕ) (xs : List X) → map_at f (mapped_to f n xs) n ≡ mapped_to f (n + 1) xs
next_mapped f n xs = let more : suc n ≡ n + 1 = omega arith in next_of f n xs ∙ ap (λ m. mapped_to f m xs) more

-- past the end all are changed
pub all_mapped : {X : Type 0} (f : X → X) (n : ℕ) (xs : List X) → length xs ≤ n → mapped_to f n xs ≡ map f xs
all_mapped f zero [] le = refl
all_mapped f zero (x ∷ xs) le = absurd (omega (arith, le))
all_mapped f (suc n) [] le = refl
all_mapped f (suc n) (x ∷ xs) le = ap (λ l. f x ∷ l) (all_mapped f n xs (omega (arith, le)))
