-- The part of a step that is the kernel's without the normal world: a thread's call, the end of its wait, and the passing of time.
use Rattle.std.specs.Prelude.{ℕ, true, List, [], ◌∷◌, ◌==◌, map, min, Option, Some, None, slice_get, if◌then◌else◌}
use Rattle.std.specs.Option.{option_map}
use Rattle.kernel_values.specs.declared.call.Call.{Call}
use Rattle.kernel_values.specs.declared.call.Call.TheVariants as call
use Rattle.kernel_values.specs.declared.entry.ActorStatus.{ActorStatus}
use Rattle.kernel_values.specs.declared.entry.ActorStatus.TheVariants as status
use Rattle.kernel_values.specs.declared.reply.Answer.{Answer}
use Rattle.kernel_values.specs.declared.reply.Answer.TheVariants as answer
use Rattle.kernel_values.specs.declared.state.Thread.{Thread}
use Rattle.kernel_values.specs.declared.state.Activity.{Activity}
use Rattle.kernel_values.specs.declared.state.Activity.TheVariants as activity
use Rattle.kernel_values.specs.declared.state.CoreState.{CoreState}
use Rattle.kernel_types.specs.Sweep.{sweep}
use Rattle.kernel_types.specs.Ports.{port_create}
use Rattle.kernel_types.specs.Connects.{connect, accept}
use Rattle.kernel_types.specs.Messages.{send, get, read, put}
use Rattle.kernel_types.specs.Handles.{set_cookie, close, dup}
use Rattle.kernel_types.specs.Sets.{set_create, set_add, set_del, set_mod}
use Rattle.kernel_types.specs.Memories.{mem_create, mem_read, mem_write}
use Rattle.kernel_types.specs.Waits.{wait, wait_any, end_of_wait}
use Rattle.kernel_types.specs.Applications.{exit, finish}
use Rattle.kernel_types.specs.Threads.{with_activity, running_activity, activity_changed}
use Rattle.kernel_types.specs.Outcome.{Outcome}

-- a system call of a thread of the application `app`; the calls of the normal world are none
unfoldable pub act : CoreState → ℕ → ℕ → Call → Option Outcome
act c thread app (call.PortCreate path bufs size flags) = Some (port_create c app path bufs size flags)
act c thread app (call.Connect path flags) = Some (connect c thread app path flags)
act c thread app (call.Accept port) = Some (accept c app port)
act c thread app (call.Send chan bytes parts) = Some (send c app chan bytes parts)
act c thread app (call.Get chan) = Some (get c app chan)
act c thread app (call.Read chan id offset room parts) = Some (read c app chan id offset room parts)
act c thread app (call.Put chan id) = Some (put c app chan id)
act c thread app (call.SetCookie handle cookie) = Some (set_cookie c app handle cookie)
act c thread app (call.Close handle) = Some (close c app handle)
act c thread app (call.Dup handle) = Some (dup c app handle)
act c thread app call.SetCreate = Some (set_create c app)
act c thread app (call.SetAdd set handle mask cookie) = Some (set_add c app set handle mask cookie)
act c thread app (call.SetDel set label) = Some (set_del c app set label)
act c thread app (call.SetMod set label mask cookie) = Some (set_mod c app set label mask cookie)
act c thread app (call.MemCreate size flags) = Some (mem_create c app size flags)
act c thread app (call.MemRead handle offset len) = Some (mem_read c app handle offset len)
act c thread app (call.MemWrite handle offset bytes) = Some (mem_write c app handle offset bytes)
act c thread app (call.Wait handle timeout) = Some (wait c thread app handle timeout)
act c thread app (call.WaitAny timeout) = Some (wait_any c thread app timeout)
act c thread app (call.Exit code) = Some (exit c app)
act c thread app call.Finish = Some (finish c thread app)
act c thread app _ = None

-- what nothing reaches any more ends with the step
abbrev pub swept : Outcome → Outcome
swept outcome = record outcome { core = sweep outcome.core }

-- a call of a thread that runs, by its present start
abbrev pub begin_as : CoreState → ℕ → ℕ → Call → ℕ → Activity → Option Outcome
begin_as c thread start call app (activity.Running running) = (if running == start then option_map swept (act c thread app call) else None)
begin_as c thread start call app other = None

abbrev pub begin_of : CoreState → ℕ → ℕ → Call → Option Thread → Option Outcome
begin_of c at start call None = None
begin_of c at start call (Some thread) = begin_as c at start call thread.app thread.activity

unfoldable pub core_begin : CoreState → ℕ → ℕ → Call → Option Outcome
core_begin c thread start call = begin_of c thread start call (slice_get c.threads thread)

-- the end of a wait of a thread, by its present start: the thread runs again
abbrev pub resumed : ℕ → Outcome → Outcome
resumed thread outcome = record outcome { core = sweep (with_activity running_activity thread outcome.core) }

abbrev pub resume_as : CoreState → ℕ → ℕ → ℕ → Activity → Option Outcome
resume_as c thread start app (activity.Waiting waiting wait) = (if waiting == start then option_map (resumed thread) (end_of_wait c app wait) else None)
resume_as c thread start app other = None

abbrev pub resume_of : CoreState → ℕ → ℕ → Option Thread → Option Outcome
resume_of c at start None = None
resume_of c at start (Some thread) = resume_as c at start thread.app thread.activity

unfoldable pub core_resume : CoreState → ℕ → ℕ → Option Outcome
core_resume c thread start = resume_of c thread start (slice_get c.threads thread)

-- What a thread does, as others see it.

abbrev pub status_of : Activity → ActorStatus
status_of activity.Off = status.Off
status_of (activity.Running start) = status.Running start
status_of (activity.Waiting start wait) = status.Waiting start
status_of (activity.Ended start) = status.Ended start

-- Time. The clock moves to the least deadline of all waits.

abbrev pub sooner : Option ℕ → Option ℕ → Option ℕ
sooner None other = other
sooner (Some one) None = Some one
sooner (Some one) (Some other) = Some (min one other)

abbrev pub deadline_in : Activity → Option ℕ
deadline_in (activity.Waiting start wait) = wait.deadline
deadline_in other = None

-- the least deadline of all waits
abbrev pub least_deadline_of : List Thread → Option ℕ
least_deadline_of [] = None
least_deadline_of (thread ∷ threads) = sooner (deadline_in thread.activity) (least_deadline_of threads)

unfoldable pub least_deadline : CoreState → Option ℕ
least_deadline c = least_deadline_of c.threads

abbrev pub cancelled_activity : Activity → Activity
cancelled_activity (activity.Waiting start wait) = activity.Waiting start (record wait { cancelled = true })
cancelled_activity other = other

-- the clock moves to the least deadline; where no wait has one, every wait is cancelled
unfoldable pub core_idle : Option ℕ → CoreState → CoreState
core_idle (Some deadline) c = record c { clock = deadline }
core_idle None c = record c { threads = map (activity_changed cancelled_activity) c.threads }

abbrev pub idle_answer : Option ℕ → Answer
idle_answer (Some deadline) = answer.Clock deadline
idle_answer None = answer.CancelAll
