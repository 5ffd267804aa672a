-- What names objects, and what is marked, with how much room there is for both.
use Rattle.std.specs.Prelude.{ℕ, List}
use Rattle.kernel_types.specs.Names.{Name}

pub record Surveyed : Type 0 where
  pub names : List Name
  pub marked : List ℕ
  pub room : ℕ
