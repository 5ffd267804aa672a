-- What the clauses of the public calls say of a turnstile and of its passes. Each takes what a value's origin is.
use Rattle.std.specs.Prelude.{◌≡◌, false, List, All}
use Rattle.atomic_table.specs.Seated.{TableId}
use Rattle.kernel_values.specs.Origin.{Origin}
use Rattle.turnstile.specs.declared.lock.Turnstile.{Turnstile}
use Rattle.turnstile.specs.declared.pass.Pass.{Pass}
use Rattle.turnstile.specs.Passes.{view, IsPassAt}
use Rattle.turnstile.specs.Closing.{IsWholeAt}

module _ {V : Type 0} where
  abbrev pub table_of : Turnstile V → TableId
  table_of t = t.table.shared.table_id

  -- the value that the turnstile was made with
  abbrev pub first_of : Turnstile V → V
  first_of t = t.table.shared.key.value.value

  module _ (origin : V → Origin) (t : Turnstile V) where
    -- the pass is one of the turnstile's, with its number
    abbrev pub IsPassOf : Pass → Type 0
    IsPassOf p = IsPassAt (table_of t) (origin (first_of t)) t.seats p

    -- the passes are the turnstile's, and none has its value
    abbrev pub AllRest : List Pass → Type 0
    AllRest passes = All (λ p. IsPassOf p × ((view p).has_turn ≡ false)) passes

    -- the pass is one of the turnstile's, but for the order of its own places
    abbrev pub IsWholeOf : Pass → Type 0
    IsWholeOf p = IsWholeAt (table_of t) (origin (first_of t)) t.seats p
