-- A seat that holds the one slot.
use Rattle.std.proofs.Common.{◌≡◌, ℕ, List, [], ◌∷◌, sym, ap, ◌∙◌}
use Rattle.atomic_table.specs.Table.{Me, rest}

pub one_held : {A : Type 0} (l : List (ℕ × A)) (k : ℕ) (x : A) → l ≡ (k, x) ∷ [] → l ≡ (k, x) ∷ rest l
one_held {A = A} l k x e = e ∙ ap (λ (m : List (ℕ × A)). (k, x) ∷ rest m) (sym e)

-- after an exchange of what it holds
pub now_held : {A B : Type 0} (m : Me A B) (v : B) (l : List (ℕ × A)) (k : ℕ) (x y : A) → l ≡ (k, x) ∷ [] → m ≡ (v, (k, y) ∷ rest l) → m ≡ (v, (k, y) ∷ [])
now_held {A = A} m v l k x y e is = is ∙ ap (λ (c : List (ℕ × A)). (v, (k, y) ∷ rest c)) e
