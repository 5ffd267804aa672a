-- Where a history begins: a state, the scripts that its actors follow, and the number of steps made before.
use Rattle.std.specs.Prelude.{ℕ, List}
use Rattle.kernel_values.specs.declared.state.State.{State}
use Rattle.kernel_values.specs.declared.script.Command.{Command}

pub record Origin : Type 0 where
  pub state : State
  pub scripts : List (List Command)
  pub made : ℕ
