-- A change of elements that keeps something of each.
use Rattle.std.proofs.Common.{◌≡◌, ℕ, zero, suc, List, [], ◌∷◌, map, Option, Some, None, refl, ap}
use Rattle.std.specs.Prelude.{slice_get}
use Rattle.std.specs.Option.{option_map}
use Rattle.kernel_types.specs.Objects.{map_at, set_if}

pub mapped_same : {X Y : Type 0} (g : X → Y) (f : X → X) → ((x : X) → g (f x) ≡ g x) → (xs : List X) → map g (map f xs) ≡ map g xs
mapped_same g f same [] = refl
mapped_same g f same (x ∷ xs) = cc (same x, mapped_same g f same xs)

pub map_at_same : {X Y : Type 0} (g : X → Y) (f : X → X) → ((x : X) → g (f x) ≡ g x) → (xs : List X) (at : ℕ) → map g (map_at f xs at) ≡ map g xs
map_at_same g f same [] at = refl
map_at_same g f same (x ∷ xs) zero = ap (λ y. y ∷ map g xs) (same x)
map_at_same g f same (x ∷ xs) (suc at) =
    let rest : map g (set_if xs at (option_map f (slice_get xs at))) ≡ map g xs = map_at_same g f same xs at in
    let Q : Option _ → Type 0 = λ o. map g (set_if xs at o) ≡ map g xs → map g (set_if (x ∷ xs) (suc at) o) ≡ map g (x ∷ xs) in
    let go : (o : Option _) → Q o = λ o. elim o as (λ v. Q v) [ None ↦ (λ is. refl) | Some y ↦ (λ is. ap (λ ys. g x ∷ ys) is) ] in
    go (option_map f (slice_get xs at)) rest
