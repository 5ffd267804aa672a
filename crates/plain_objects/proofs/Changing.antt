-- Changes of a list at one place, and at one place after another.
use Rattle.std.proofs.Common.{◌≡◌, ◌≤◌, ◌+◌, ℕ, zero, suc, Bool, cond, List, [], ◌∷◌, ◌++◌, map, take, drop, length, Some, None, refl, sym, ap, ◌∙◌, arith}
use Rattle.std.specs.Prelude.{slice_get}
use Rattle.std.specs.List.{filter}
use Rattle.std.specs.Option.{option_map}
use Rattle.kernel_types.specs.Objects.{map_at, set_if}

pub later_changed : {X : Type 0} (f : X → X) (x : X) (xs : List X) (at : ℕ) → map_at f (x ∷ xs) (suc at) ≡ x ∷ map_at f xs at
later_changed f x xs at = elim (option_map f (slice_get xs at)) as (λ o. set_if (x ∷ xs) (suc at) o ≡ x ∷ set_if xs at o) [ None ↦ refl | Some y ↦ refl ]

-- so many places are changed, and then one more
pub mapped_more : {X : Type 0} (f : X → X) (xs : List X) (at : ℕ) → map_at f (map f (take at xs) ++ drop at xs) at ≡ map f (take (suc at) xs) ++ drop (suc at) xs
mapped_more f [] zero = refl
mapped_more f [] (suc at) = refl
mapped_more f (x ∷ xs) zero = refl
mapped_more f (x ∷ xs) (suc at) = later_changed f (f x) (map f (take at xs) ++ drop at xs) at ∙ ap (λ ys. f x ∷ ys) (mapped_more f xs at)

pub mapped_whole : {X : Type 0} (f : X → X) (xs : List X) (n : ℕ) → length xs ≤ n → map f (take n xs) ++ drop n xs ≡ map f xs
mapped_whole f [] zero le = refl
mapped_whole f [] (suc n) le = refl
mapped_whole f (x ∷ xs) zero le = absurd (omega (arith, le))
mapped_whole f (x ∷ xs) (suc n) le = ap (λ ys. f x ∷ ys) (mapped_whole f xs n (omega (arith, le)))

pub changed_alike : {X : Type 0} (f g : X → X) → ((x : X) → f x ≡ g x) → (xs : List X) (at : ℕ) → map_at f xs at ≡ map_at g xs at
changed_alike f g same xs at =
    elim (slice_get xs at) as (λ o. set_if xs at (option_map f o) ≡ set_if xs at (option_map g o)) [ None ↦ refl | Some x ↦ ap (λ y. set_if xs at (Some y)) (same x) ]

pub changed_twice : {X : Type 0} (f g : X → X) (xs : List X) (at : ℕ) → map_at f (map_at g xs at) at ≡ map_at (λ x. f (g x)) xs at
changed_twice f g [] at = refl
changed_twice f g (x ∷ xs) zero = refl
changed_twice f g (x ∷ xs) (suc at) =
    ap (λ ys. map_at f ys (suc at)) (later_changed g x xs at)
    ∙ (later_changed f x (map_at g xs at) at ∙ (ap (λ ys. x ∷ ys) (changed_twice f g xs at) ∙ sym (later_changed (λ y. f (g y)) x xs at)))

pub filtered_alike : {X : Type 0} (p q : X → Bool) → ((x : X) → p x ≡ q x) → (xs : List X) → filter p xs ≡ filter q xs
filtered_alike p q same [] = refl
filtered_alike p q same (x ∷ xs) =
    ap (λ b. cond b (x ∷ filter p xs) (filter p xs)) (same x) ∙ ap (λ ys. cond (q x) (x ∷ ys) ys) (filtered_alike p q same xs)

-- the same for a list that is so far changed, as in a loop over the places
pub mapped_next : {X : Type 0} (f : X → X) (xs ys zs : List X) (at : ℕ) → ys ≡ map f (take at xs) ++ drop at xs → zs ≡ map_at f ys at → zs ≡ map f (take (at + 1) xs) ++ drop (at + 1) xs
mapped_next f xs ys zs at so_far now =
    let next : suc at ≡ at + 1 = omega arith in
    now ∙ (ap (λ os. map_at f os at) so_far ∙ (mapped_more f xs at ∙ ap (λ n. map f (take n xs) ++ drop n xs) next))
