-- A step before its sweep: what nothing reaches any more is still there.
use Rattle.std.specs.Prelude.{ℕ, Bool, ◌==◌, Option, Some, None, slice_get, if◌then◌else◌}
use Rattle.std.specs.Option.{option_map}
use Rattle.kernel_values.specs.declared.call.Call.{Call}
use Rattle.kernel_values.specs.declared.entry.Event.{Event}
use Rattle.kernel_values.specs.declared.entry.Event.TheVariants as event
use Rattle.kernel_values.specs.declared.state.Activity.{Activity}
use Rattle.kernel_values.specs.declared.state.Activity.TheVariants as activity
use Rattle.kernel_values.specs.declared.state.CoreState.{CoreState}
use Rattle.kernel_values.specs.declared.state.Thread.{Thread}
use Rattle.kernel_types.specs.CoreStep.{act, core_idle, idle_answer, least_deadline}
use Rattle.kernel_types.specs.Outcome.{Outcome, no_seqs}
use Rattle.kernel_types.specs.Threads.{running_activity, with_activity}
use Rattle.kernel_types.specs.Waits.{end_of_wait}

-- a call of a thread that runs, by its present start
abbrev pub begun_as : CoreState → ℕ → ℕ → Call → ℕ → Activity → Option Outcome
begun_as c thread start call app (activity.Running running) = (if running == start then act c thread app call else None)
begun_as c thread start call app other = None

abbrev pub begun_by : CoreState → ℕ → ℕ → Call → Option Thread → Option Outcome
begun_by c at start call None = None
begun_by c at start call (Some thread) = begun_as c at start call thread.app thread.activity

unfoldable pub begun : CoreState → ℕ → ℕ → Call → Option Outcome
begun c thread start call = begun_by c thread start call (slice_get c.threads thread)

-- the end of a wait of a thread, by its present start: the thread runs again

abbrev pub runs_again : ℕ → Outcome → Outcome
runs_again thread outcome = record outcome { core = with_activity running_activity thread outcome.core }

abbrev pub ended_as : CoreState → ℕ → ℕ → ℕ → Activity → Option Outcome
ended_as c thread start app (activity.Waiting waiting wait) = (if waiting == start then option_map (runs_again thread) (end_of_wait c app wait) else None)
ended_as c thread start app other = None

abbrev pub ended_by : CoreState → ℕ → ℕ → Option Thread → Option Outcome
ended_by c at start None = None
ended_by c at start (Some thread) = ended_as c at start thread.app thread.activity

unfoldable pub wait_ended : CoreState → ℕ → ℕ → Option Outcome
wait_ended c thread start = ended_by c thread start (slice_get c.threads thread)

-- nothing else can move
abbrev pub idled : CoreState → Outcome
idled c = record { answer = idle_answer (least_deadline c); seqs = no_seqs; core = core_idle (least_deadline c) c }

-- an event of the core, or nothing where it is not lawful; `may_idle` says whether Idle is, and the device does nothing
unfoldable pub taken : CoreState → Bool → Event → Option Outcome
taken c may_idle (event.Begin actor start call) = begun c actor.0 start call
taken c may_idle (event.Resume actor start) = wait_ended c actor.0 start
taken c may_idle event.Device = None
taken c may_idle event.Idle = (if may_idle then Some (idled c) else None)
