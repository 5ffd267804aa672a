-- Whether an event is lawful: by the kind of call, by what its actor does, and by whether that may move.
use Rattle.std.specs.Prelude.{◌≡◌, ℕ, Bool, true, false, ◌==◌, ◌&&◌, Option, Some, None}
use Rattle.kernel_values.specs.declared.call.Call.{Call}
use Rattle.kernel_values.specs.declared.entry.ActorStatus.{ActorStatus}
use Rattle.kernel_values.specs.declared.entry.ActorStatus.TheVariants as status
use Rattle.kernel_values.specs.declared.entry.Event.{Event}
use Rattle.kernel_values.specs.declared.entry.Event.TheVariants as event
use Rattle.kernel_values.specs.declared.state.State.{State}
use Rattle.kernel_values.specs.Calls.{is_of_client, is_of_thread}
use Rattle.kernel_types.specs.Facts.{status_at}
use Rattle.kernel_types.specs.Kernel.{step_limit}
use Rattle.kernel_types.specs.Step.{device_has_work, idle_lawful, is_thread, movable}

-- a call of a thread, or else of a client
abbrev pub makes : Bool → Call → Bool
makes true asked = is_of_thread asked
makes false asked = is_of_client asked

-- an actor that runs by this start

abbrev pub runs_as : ℕ → ActorStatus → Bool
runs_as start (status.Running running) = running == start
runs_as start other = false

abbrev pub is_running_as : ℕ → Option ActorStatus → Bool
is_running_as start None = false
is_running_as start (Some status) = runs_as start status

-- an actor that waits by this start

abbrev pub waits_as : ℕ → ActorStatus → Bool
waits_as start (status.Waiting waiting) = waiting == start
waits_as start other = false

abbrev pub is_waiting_as : ℕ → Option ActorStatus → Bool
is_waiting_as start None = false
is_waiting_as start (Some status) = waits_as start status

-- the same as whether the event has a step
unfoldable pub is_lawful : State → Event → Bool
is_lawful s (event.Begin actor start asked) = makes (is_thread s actor.0) asked && is_running_as start (status_at s actor.0)
is_lawful s (event.Resume actor start) = is_waiting_as start (status_at s actor.0) && movable s actor.0
is_lawful s event.Device = device_has_work s
is_lawful s event.Idle = idle_lawful s

-- no step is refused for want of memory where all steps are used up, nor is the passing of time ever
abbrev pub IsSpared : ℕ → Event → Type 0
IsSpared made event.Idle = Unit {0}
IsSpared made other = made ≡ step_limit
