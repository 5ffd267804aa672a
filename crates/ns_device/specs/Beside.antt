-- A core changes, and the world beside it stays.
use Rattle.std.specs.Prelude.{◌≡◌}
use Rattle.kernel_values.specs.declared.state.CoreState.{CoreState}
use Rattle.kernel_values.specs.declared.state.State.{State}

-- t has this core, and the world of s
pub record Becomes (core : CoreState) (s t : State) : Type 0 where
  pub core_is : t.core ≡ core
  pub world_is : t.world ≡ s.world
