-- What the trait of kernels says of one step.
use Rattle.std.specs.Prelude.{◌≡◌, ◌<◌, ℕ, Option, Some, None, ⊤, ◌+◌, ◌≢◌}
use Rattle.kernel_values.specs.declared.entry.Event.{Event}
use Rattle.kernel_values.specs.declared.entry.Event.TheVariants as event
use Rattle.kernel_values.specs.declared.entry.Entry.{Entry}
use Rattle.kernel_values.specs.declared.entry.ActorStatus.{ActorStatus}
use Rattle.kernel_values.specs.declared.state.State.{State}
use Rattle.kernel_types.specs.declared.kernel.StepCause.{StepCause}
use Rattle.kernel_types.specs.declared.kernel.StepCause.TheVariants.{NotMovable, Full, NoMemory}
use Rattle.kernel_types.specs.declared.kernel.StepRefused.{StepRefused}
use Rattle.kernel_types.specs.Step.{step}
use Rattle.kernel_types.specs.History.{step_entry, next_state}
use Rattle.kernel_types.specs.Facts.{status_at}

-- a kernel makes at most this many steps
unfoldable pub step_limit : ℕ
step_limit = 4294967295

-- the event has a step; the entry is its entry, and the state the one after it
pub record Did (event : Event) (s t : State) (made remade : ℕ) (entry : Entry) : Type 0 where
  pub event_is : entry.event ≡ event
  pub entry_is : step_entry s event ≡ Some entry
  pub state_is : t ≡ next_state s event
  pub made_is : remade ≡ made + 1
  pub below : made < step_limit

-- the status of the actor that an event is of, where it is an actor of the scene
abbrev pub status_for : State → Event → Option ActorStatus
status_for s (event.Begin actor start call) = status_at s actor.0
status_for s (event.Resume actor start) = status_at s actor.0
status_for s other = None

-- NotMovable comes exactly where the event is not lawful, Full where it is and the steps are used up; want of memory is free
abbrev pub CauseHolds : Event → State → ℕ → StepCause → Type 0
CauseHolds event s made (NotMovable status) = (step s event ≡ None) × (status ≡ status_for s event)
CauseHolds event s made Full = (step s event ≢ None) × (made ≡ step_limit)
CauseHolds event s made NoMemory = ⊤

-- the event comes back, and all stands as before
pub record Refused (event : Event) (s t : State) (made remade : ℕ) (refused : StepRefused) : Type 0 where
  pub event_is : refused.event ≡ event
  pub state_is : t ≡ s
  pub made_is : remade ≡ made
  pub cause : CauseHolds event s made refused.cause
