-- A state that is ready to take the place of the one before.
use Rattle.std.specs.Prelude.{◌≡◌, ◌<◌, ◌≤◌, ℕ, Some, length}
use Rattle.kernel_values.specs.declared.entry.Event.{Event}
use Rattle.kernel_values.specs.declared.state.State.{State}
use Rattle.plain_kernel.specs.declared.kernel.Next.{Next}
use Rattle.plain_calls.specs.declared.told.CallOutcome.{CallOutcome}
use Rattle.plain_kernel.specs.CoreSteps.{core_statuses}
use Rattle.plain_kernel.specs.Steps.{stepped}
use Rattle.kernel_types.specs.Kernel.{step_limit}
use Rattle.kernel_types.specs.Names.{naming}
use Rattle.kernel_types.specs.Step.{step}

-- its names and statuses are those of its state, and there is room for a survey of as many names
pub record IsListed (next : Next) : Type 0 where
  pub names : next.survey.names ≡ naming next.core
  pub room : length (naming next.core) ≤ next.survey.room
  pub statuses : next.statuses ≡ core_statuses next.core

-- the event's step from `s` leads to it
pub record IsReady (event : Event) (s : State) (made : ℕ) (next : Next) (told : CallOutcome) : Type 0 where
  pub step_is : step s event ≡ Some (stepped told next.core s.world)
  pub below : made < step_limit
  pub listed : IsListed next
