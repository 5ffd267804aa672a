-- Starts and ends of applications and of their threads.
use Rattle.std.specs.Prelude.{ℕ, Bool, true, false, List, [], ◌+◌, ◌==◌, ◌&&◌, ◌||◌, not, map, Option, Some, None, slice_get, if◌then◌else◌}
use Rattle.std.specs.List.{list_all, flat_map, enumerate_from}
use Rattle.kernel_values.specs.declared.entry.ActorStatus.{ActorStatus}
use Rattle.kernel_values.specs.declared.entry.ActorStatus.TheVariants as status
use Rattle.kernel_values.specs.declared.scene.App.{App}
use Rattle.kernel_values.specs.declared.scene.Manifest.{Manifest}
use Rattle.kernel_values.specs.declared.state.Application.{Application}
use Rattle.kernel_values.specs.declared.state.TableEntry.{TableEntry}
use Rattle.kernel_values.specs.declared.ids.AppId.{AppId}
use Rattle.kernel_types.specs.Applications.{ended_app, has_start_left, is_started_again, started_app}
use Rattle.kernel_types.specs.Objects.{map_at}
use Rattle.kernel_types.specs.Opening.{opening_app}
use Rattle.app_life.specs.declared.threads.ThreadLife.{ThreadLife}

-- every application and every thread, each by its number
pub record Lives : Type 0 where
  pub apps : List Application
  pub threads : List ThreadLife

abbrev pub opening_status : Manifest → ActorStatus
opening_status manifest = (if manifest.deferred then status.Off else status.Running 1)

-- a thread for each script of an application
abbrev pub opening_thread : ℕ → Manifest → ThreadLife
opening_thread app manifest = record { app = record { 0 = app }; status = opening_status manifest }

abbrev pub opening_threads : ℕ × App → List ThreadLife
opening_threads (place, app) = map (λ script. opening_thread place app.manifest) app.threads

unfoldable pub opening_lives : List App → Lives
opening_lives apps = record { apps = map opening_app apps; threads = flat_map opening_threads (enumerate_from 0 apps) }

-- a start is made of an application that does not run, while one is left
abbrev pub may_start : Option Application → Bool
may_start None = false
may_start (Some app) = not app.running && has_start_left app

abbrev pub started_thread : ℕ → ℕ → ThreadLife → ThreadLife
started_thread app start thread = (if thread.app.0 == app then record thread { status = status.Running start } else thread)

abbrev pub started_as : ℕ → Option Application → Lives → Lives
started_as app None lives = lives
started_as app (Some was) lives = record {
  apps = map_at started_app lives.apps app;
  threads = map (started_thread app (was.starts + 1)) lives.threads;
}

-- the application is started once more: each of its threads runs, by the next start
abbrev pub started : ℕ → Lives → Lives
started app lives = started_as app (slice_get lives.apps app) lives

-- where a start is made
abbrev pub started_if_may : ℕ → Lives → Lives
started_if_may app lives = (if may_start (slice_get lives.apps app) then started app lives else lives)

abbrev pub ended_status : ActorStatus → ActorStatus
ended_status status.Off = status.Off
ended_status (status.Running start) = status.Ended start
ended_status (status.Waiting start) = status.Ended start
ended_status (status.Ended start) = status.Ended start

abbrev pub ended_thread : ThreadLife → ThreadLife
ended_thread thread = record thread { status = ended_status thread.status }

abbrev pub ended_thread_of : ℕ → ThreadLife → ThreadLife
ended_thread_of app thread = (if thread.app.0 == app then ended_thread thread else thread)

-- the application no longer runs, and its threads are Ended
abbrev pub stopped_app : ℕ → Lives → Lives
stopped_app app lives = record { apps = map_at ended_app lives.apps app; threads = map (ended_thread_of app) lives.threads }

-- the end of an application: its threads are Ended; where its manifest says so and a start is left, it starts again
abbrev pub application_ended : ℕ → Lives → Lives
application_ended app lives = (if is_started_again (slice_get lives.apps app) then started app (stopped_app app lives) else stopped_app app lives)

-- a thread that was never started, or has ended
abbrev pub is_over : ActorStatus → Bool
is_over status.Off = true
is_over (status.Running start) = false
is_over (status.Waiting start) = false
is_over (status.Ended start) = true

abbrev pub is_elsewhere_or_over : ℕ → ThreadLife → Bool
is_elsewhere_or_over app thread = not (thread.app.0 == app) || is_over thread.status

-- no other thread of the thread's application goes on
abbrev pub is_last_of : Option ThreadLife → List ThreadLife → Bool
is_last_of None threads = false
is_last_of (Some thread) threads = list_all (is_elsewhere_or_over thread.app.0) threads

-- a thread that runs begins to wait, or one that waits runs again
abbrev pub waiting_status : Bool → ActorStatus → ActorStatus
waiting_status waits status.Off = status.Off
waiting_status waits (status.Running start) = (if waits then status.Waiting start else status.Running start)
waiting_status waits (status.Waiting start) = (if waits then status.Waiting start else status.Running start)
waiting_status waits (status.Ended start) = status.Ended start

abbrev pub waiting_thread : Bool → ThreadLife → ThreadLife
waiting_thread waits thread = record thread { status = waiting_status waits thread.status }

-- the number is the last that a `waitany` reported
abbrev pub reported : ℕ → Application → Application
reported handle app = record app { last = Some handle }

-- what is asked of one application or thread; of one that is not there, nothing is true

abbrev pub app_runs : Option Application → Bool
app_runs None = false
app_runs (Some app) = app.running

abbrev pub table_of : Option Application → List TableEntry
table_of None = []
table_of (Some app) = app.table

abbrev pub last_of : Option Application → Option ℕ
last_of None = None
last_of (Some app) = app.last

abbrev pub app_restarts : Option Application → Bool
app_restarts None = false
app_restarts (Some app) = app.manifest.restart

abbrev pub app_table : Application → List TableEntry
app_table app = app.table

abbrev pub uuid_of : Application → ℕ
uuid_of app = app.manifest.uuid

abbrev pub thread_app : ThreadLife → AppId
thread_app thread = thread.app

abbrev pub thread_status : ThreadLife → ActorStatus
thread_status thread = thread.status

abbrev pub is_running : ActorStatus → Bool
is_running (status.Running start) = true
is_running _ = false

abbrev pub thread_runs : Option ThreadLife → Bool
thread_runs None = false
thread_runs (Some thread) = is_running thread.status

abbrev pub is_started : ActorStatus → Bool
is_started (status.Running start) = true
is_started (status.Waiting start) = true
is_started _ = false

abbrev pub thread_goes_on : Option ThreadLife → Bool
thread_goes_on None = false
thread_goes_on (Some thread) = is_started thread.status
