-- Starts and ends of applications.
use Rattle.std.specs.Prelude.{ℕ, Bool, true, false, List, [], ◌+◌, ◌==◌, ◌&&◌, ◌||◌, not, nat_lt, map, Option, Some, None, slice_get, if◌then◌else◌}
use Rattle.std.specs.List.{list_all, list_any}
use Rattle.std.specs.Prelude.{bytes_eq}
use Rattle.kernel_values.specs.declared.scene.StartPort.{StartPort}
use Rattle.kernel_values.specs.declared.state.Application.{Application}
use Rattle.kernel_values.specs.declared.state.Thread.{Thread}
use Rattle.kernel_values.specs.declared.state.Activity.{Activity}
use Rattle.kernel_values.specs.declared.state.Activity.TheVariants as activity
use Rattle.kernel_values.specs.declared.state.CoreState.{CoreState}
use Rattle.kernel_values.specs.declared.reply.Reply.TheVariants as reply
use Rattle.kernel_types.specs.Objects.{map_at}
use Rattle.kernel_types.specs.Outcome.{Outcome, gives}

-- an application starts at most 4 times

abbrev pub start_limit : ℕ
start_limit = 4

abbrev pub has_start_left : Application → Bool
has_start_left app = nat_lt app.starts start_limit

-- one more start: an empty table, and no number that a `waitany` reported
abbrev pub started_app : Application → Application
started_app app = record app { starts = app.starts + 1; running = true; table = []; last = None }

abbrev pub started_thread : ℕ → ℕ → Thread → Thread
started_thread app start thread = (if thread.app == app then record thread { activity = activity.Running start } else thread)

abbrev pub started_as : ℕ → Option Application → CoreState → CoreState
started_as app None c = c
started_as app (Some was) c = record c {
  apps = map_at started_app c.apps app;
  threads = map (started_thread app (was.starts + 1)) c.threads;
}

-- the state in which an application is started once more: each of its threads runs, by the next start
unfoldable pub started : ℕ → CoreState → CoreState
started app c = started_as app (slice_get c.apps app) c

abbrev pub ended_app : Application → Application
ended_app app = record app { running = false; table = [] }

abbrev pub ended_activity : Activity → Activity
ended_activity activity.Off = activity.Off
ended_activity (activity.Running start) = activity.Ended start
ended_activity (activity.Waiting start wait) = activity.Ended start
ended_activity (activity.Ended start) = activity.Ended start

abbrev pub ended_thread : ℕ → Thread → Thread
ended_thread app thread = (if thread.app == app then record thread { activity = ended_activity thread.activity } else thread)

abbrev pub is_started_again : Option Application → Bool
is_started_again None = false
is_started_again (Some app) = app.manifest.restart && has_start_left app

abbrev pub without_app : ℕ → CoreState → CoreState
without_app app c = record c { apps = map_at ended_app c.apps app; threads = map (ended_thread app) c.threads }

-- the end of an application: its table and its waits vanish and its threads are Ended; where its manifest
-- says so and a start is left, it starts again. What nothing names any more ends with the step: a start names nothing.
unfoldable pub application_ended : ℕ → CoreState → CoreState
application_ended app c = (if is_started_again (slice_get c.apps app) then started app (without_app app c) else without_app app c)

abbrev pub is_over : Activity → Bool
is_over activity.Off = true
is_over (activity.Ended start) = true
is_over _ = false

abbrev pub is_elsewhere_or_over : ℕ → Thread → Bool
is_elsewhere_or_over app thread = not (thread.app == app) || is_over thread.activity

abbrev pub thread_ended : Thread → Thread
thread_ended thread = record thread { activity = ended_activity thread.activity }

abbrev pub after_finish : ℕ → CoreState → CoreState
after_finish app c = (if list_all (is_elsewhere_or_over app) c.threads then application_ended app c else c)

-- `finish`: the thread ends, and with the last thread its application
unfoldable pub finish : CoreState → ℕ → ℕ → Outcome
finish c thread app = gives reply.Done (after_finish app (record c { threads = map_at thread_ended c.threads thread }))

-- `exit`: the application ends
unfoldable pub exit : CoreState → ℕ → Outcome
exit c app = gives reply.Done (application_ended app c)

-- an application that has this start port
abbrev pub is_start_port : List ℕ → StartPort → Bool
is_start_port path port = bytes_eq port.path path

abbrev pub has_start_port : List ℕ → Application → Bool
has_start_port path app = list_any (is_start_port path) app.manifest.ports
