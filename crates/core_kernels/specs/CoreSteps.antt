-- What a kernel without clients does and tells, by its core alone.
use Rattle.std.specs.Prelude.{Bool, List, ◌&&◌, not, map, Option, Some, None, if◌then◌else◌}
use Rattle.std.specs.List.{list_any}
use Rattle.kernel_values.specs.declared.entry.ActorStatus.{ActorStatus}
use Rattle.kernel_values.specs.declared.entry.Event.{Event}
use Rattle.kernel_values.specs.declared.entry.Event.TheVariants as event
use Rattle.kernel_values.specs.declared.state.CoreState.{CoreState}
use Rattle.kernel_types.specs.CoreStep.{core_begin, core_resume, status_of}
use Rattle.kernel_types.specs.Outcome.{Outcome}
use Rattle.kernel_types.specs.Step.{has_begun_and_goes_on, is_running}
use Rattle.kernel_types.specs.Waits.{thread_may_move}
use Rattle.core_kernels.specs.Steps.{idle_outcome}

-- the threads are all actors
unfoldable pub core_statuses : CoreState → List ActorStatus
core_statuses c = map (λ thread. status_of thread.activity) c.threads

unfoldable pub core_idle_lawful : CoreState → Bool
core_idle_lawful c = list_any has_begun_and_goes_on (core_statuses c) && not (list_any is_running (core_statuses c)) && not (list_any (thread_may_move c) c.threads)

-- the step of an event, or nothing where the event is not lawful; the device does nothing
unfoldable pub core_step : CoreState → Event → Option Outcome
core_step c (event.Begin actor start call) = core_begin c actor.0 start call
core_step c (event.Resume actor start) = core_resume c actor.0 start
core_step c event.Device = None
core_step c event.Idle = (if core_idle_lawful c then Some (idle_outcome c) else None)
