-- One step of the whole kernel: which events are lawful in a state, and what each answers and leaves. A thread's step is the
-- core's, and leaves the world alone; a client's step leaves the core alone.
use Rattle.std.specs.Prelude.{ℕ, Bool, true, false, List, [], ◌∷◌, ◌++◌, ◌-◌, ◌==◌, ◌&&◌, ◌||◌, not, nat_lt, length, map, Option, Some, None, slice_get, if◌then◌else◌}
use Rattle.std.specs.List.{list_any}
use Rattle.std.specs.Option.{is_some, option_map}
use Rattle.kernel_values.specs.declared.call.Call.{Call}
use Rattle.kernel_values.specs.declared.entry.Event.{Event}
use Rattle.kernel_values.specs.declared.entry.Event.TheVariants as event
use Rattle.kernel_values.specs.declared.entry.Seqs.{Seqs}
use Rattle.kernel_values.specs.declared.entry.ActorStatus.{ActorStatus}
use Rattle.kernel_values.specs.declared.entry.ActorStatus.TheVariants as status
use Rattle.kernel_values.specs.declared.reply.Answer.{Answer}
use Rattle.kernel_values.specs.declared.reply.Answer.TheVariants as answer
use Rattle.kernel_values.specs.declared.state.CoreState.{CoreState}
use Rattle.kernel_values.specs.declared.state.State.{State}
use Rattle.kernel_values.specs.declared.world.ClientActivity.{ClientActivity}
use Rattle.kernel_values.specs.declared.world.ClientActivity.TheVariants as activity
use Rattle.kernel_values.specs.declared.world.ClientState.{ClientState}
use Rattle.kernel_values.specs.declared.world.World.{World}
use Rattle.kernel_types.specs.Clients.{Acted, ns_act, end_of_ns_wait, client_may_move, client_changed, with_client, client_running, client_cancelled}
use Rattle.kernel_types.specs.CoreStep.{core_begin, core_resume, status_of, sooner, least_deadline, core_idle, idle_answer}
use Rattle.kernel_types.specs.Device.{DeviceStep, device_step}
use Rattle.kernel_types.specs.Drains.{drained}
use Rattle.kernel_types.specs.Outcome.{Outcome, no_seqs}
use Rattle.kernel_types.specs.Sweep.{sweep}
use Rattle.kernel_types.specs.Waits.{thread_may_move, thread_movable}

pub record Stepped : Type 0 where
  pub answer : Answer
  pub seqs : Seqs
  pub state : State

abbrev pub in_world : World → Outcome → Stepped
in_world world outcome = record { answer = outcome.answer; seqs = outcome.seqs; state = record { core = outcome.core; world = world } }

abbrev pub beside_core : CoreState → Acted → Stepped
beside_core c acted = record { answer = acted.answer; seqs = no_seqs; state = record { core = c; world = acted.world } }

-- Actors: the threads come first, then the clients.

abbrev pub is_thread : State → ℕ → Bool
is_thread s actor = nat_lt actor (length s.core.threads)

-- the client with this number among the actors
abbrev pub client_number : State → ℕ → ℕ
client_number s actor = actor - length s.core.threads

abbrev pub client_status : ClientActivity → ActorStatus
client_status (activity.Running start) = status.Running start
client_status (activity.Waiting start wait) = status.Waiting start
client_status (activity.Ended start) = status.Ended start

unfoldable pub statuses : State → List ActorStatus
statuses s = map (λ thread. status_of thread.activity) s.core.threads ++ map (λ client. client_status client.activity) s.world.clients

abbrev pub has_begun_and_goes_on : ActorStatus → Bool
has_begun_and_goes_on (status.Running start) = true
has_begun_and_goes_on (status.Waiting start) = true
has_begun_and_goes_on other = false

abbrev pub is_running : ActorStatus → Bool
is_running (status.Running start) = true
is_running other = false

-- A call of a client that runs, by its present start.

abbrev pub client_call_as : State → ℕ → ℕ → Call → ClientActivity → Option Acted
client_call_as s client start call (activity.Running running) = (if running == start then ns_act s.core.clock client call s.world else None)
client_call_as s client start call other = None

abbrev pub client_call_of : State → ℕ → ℕ → Call → Option ClientState → Option Acted
client_call_of s client start call None = None
client_call_of s client start call (Some state) = client_call_as s client start call state.activity

unfoldable pub client_begin : State → ℕ → ℕ → Call → Option Acted
client_begin s client start call = client_call_of s client start call (slice_get s.world.clients client)

-- The end of a client's wait, by its present start: the client runs again.

abbrev pub runs_again : ℕ → Acted → Acted
runs_again client acted = record acted { world = with_client client_running client acted.world }

abbrev pub client_resume_as : State → ℕ → ℕ → ClientActivity → Option Acted
client_resume_as s client start (activity.Waiting waiting wait) =
    (if waiting == start then option_map (runs_again client) (end_of_ns_wait s.core.clock wait (drained s.world)) else None)
client_resume_as s client start other = None

abbrev pub client_resume_of : State → ℕ → ℕ → Option ClientState → Option Acted
client_resume_of s client start None = None
client_resume_of s client start (Some state) = client_resume_as s client start state.activity

unfoldable pub client_resume : State → ℕ → ℕ → Option Acted
client_resume s client start = client_resume_of s client start (slice_get s.world.clients client)

-- Which actors and whether the device can take a turn.

unfoldable pub device_has_work : State → Bool
device_has_work s = is_some (device_step s)

abbrev pub client_may_move_if : State → Option ClientState → Bool
client_may_move_if s None = false
client_may_move_if s (Some client) = client_may_move s.core.clock s.world client.activity

unfoldable pub client_movable : State → ℕ → Bool
client_movable s client = client_may_move_if s (slice_get s.world.clients client)

-- whether an actor waits and may move
unfoldable pub movable : State → ℕ → Bool
movable s actor = (if is_thread s actor then thread_movable s.core actor else client_movable s (client_number s actor))

-- Idle: some actor that was started has not ended, every such actor waits, none may move, and the device has no work.

abbrev pub any_may_move : State → Bool
any_may_move s = list_any (thread_may_move s.core) s.core.threads
    || list_any (λ client. client_may_move s.core.clock s.world client.activity) s.world.clients

unfoldable pub idle_lawful : State → Bool
idle_lawful s = list_any has_begun_and_goes_on (statuses s) && not (list_any is_running (statuses s))
    && not (any_may_move s) && not (device_has_work s)

abbrev pub client_deadline : ClientActivity → Option ℕ
client_deadline (activity.Waiting start wait) = wait.deadline
client_deadline other = None

abbrev pub least_client_deadline : List ClientState → Option ℕ
least_client_deadline [] = None
least_client_deadline (client ∷ clients) = sooner (client_deadline client.activity) (least_client_deadline clients)

-- the least deadline of all waits, of threads and clients
unfoldable pub next_deadline : State → Option ℕ
next_deadline s = sooner (least_deadline s.core) (least_client_deadline s.world.clients)

-- where no wait has a deadline, every wait is cancelled
unfoldable pub world_idle : Option ℕ → World → World
world_idle (Some deadline) w = w
world_idle None w = record w { clients = map (client_changed client_cancelled) w.clients }

abbrev pub idle_until : Option ℕ → State → Stepped
idle_until deadline s = record {
  answer = idle_answer deadline;
  seqs = no_seqs;
  state = record { core = sweep (core_idle deadline s.core); world = world_idle deadline s.world };
}

abbrev pub idle : State → Stepped
idle s = idle_until (next_deadline s) s

abbrev pub device_stepped : DeviceStep → Stepped
device_stepped done = record { answer = answer.Device done.reply; seqs = done.seqs; state = done.state }

abbrev pub begin : State → ℕ → ℕ → Call → Option Stepped
begin s actor start call =
    (if is_thread s actor then option_map (in_world s.world) (core_begin s.core actor start call)
    else option_map (beside_core s.core) (client_begin s (client_number s actor) start call))

abbrev pub resume : State → ℕ → ℕ → Option Stepped
resume s actor start =
    (if is_thread s actor then option_map (in_world s.world) (core_resume s.core actor start)
    else option_map (beside_core s.core) (client_resume s (client_number s actor) start))

-- the step of an event, or nothing where the event is not lawful
unfoldable pub step : State → Event → Option Stepped
step s (event.Begin actor start call) = begin s actor.0 start call
step s (event.Resume actor start) = resume s actor.0 start
step s event.Device = option_map device_stepped (device_step s)
step s event.Idle = (if idle_lawful s then Some (idle s) else None)
