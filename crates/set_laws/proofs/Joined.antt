-- The names of two lists, one behind the other.
use Rattle.std.proofs.Common.{◌⊎◌, inl, inr, List, [], ◌∷◌, ◌++◌}
use Rattle.kernel_types.specs.Names.{Name}
use Rattle.kernel_types.specs.Reach.{Among}

pub among_left : (name : Name) (xs ys : List Name) → Among name xs → Among name (xs ++ ys)
among_left name [] ys among = absurd among
among_left name (x ∷ xs) ys (inl same) = inl same
among_left name (x ∷ xs) ys (inr more) = inr (among_left name xs ys more)

pub among_right : (name : Name) (xs ys : List Name) → Among name ys → Among name (xs ++ ys)
among_right name [] ys among = among
among_right name (x ∷ xs) ys among = inr (among_right name xs ys among)

pub among_split : (name : Name) (xs ys : List Name) → Among name (xs ++ ys) → Among name xs ⊎ Among name ys
among_split name [] ys among = inr among
among_split name (x ∷ xs) ys (inl same) = inl (inl same)
among_split name (x ∷ xs) ys (inr more) = elim (among_split name xs ys more) [ inl first ↦ inl (inr first) | inr second ↦ inr second ]
