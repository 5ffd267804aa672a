-- Walks over the items of a list, one after the other.
use Rattle.std.specs.Prelude.{ℕ, zero, suc, List, [], ◌∷◌}

-- the first items are changed, the others are not yet
abbrev pub mapped_to : {X : Type 0} → (X → X) → ℕ → List X → List X
mapped_to change zero xs = xs
mapped_to change (suc n) [] = []
mapped_to change (suc n) (x ∷ xs) = change x ∷ mapped_to change n xs
