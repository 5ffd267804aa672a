-- What a client does: its call, or the end of its wait, by what the driver says.
use Rattle.std.specs.Prelude.{ℕ, ◌+◌, ◌<◌, ◌==◌, ◌||◌, Bool, true, false, List, Option, Some, None, slice_get, if◌then◌else◌}
use Rattle.std.specs.Option.{option_map}
use Rattle.kernel_values.specs.declared.call.Call.{Call}
use Rattle.kernel_values.specs.declared.call.Call.TheVariants as call
use Rattle.kernel_values.specs.declared.call.CallKind.{CallKind}
use Rattle.kernel_values.specs.declared.call.CallKind.TheVariants as kind
use Rattle.kernel_values.specs.Calls.{kind_of}
use Rattle.kernel_values.specs.declared.entry.Event.{Event}
use Rattle.kernel_values.specs.declared.entry.Event.TheVariants as event
use Rattle.kernel_values.specs.declared.errno.Errno.TheVariants as errno
use Rattle.kernel_values.specs.declared.reply.Answer.{Answer}
use Rattle.kernel_values.specs.declared.reply.Answer.TheVariants as answer
use Rattle.kernel_values.specs.declared.reply.Reply.TheVariants as reply
use Rattle.kernel_values.specs.declared.state.CoreState.{CoreState}
use Rattle.kernel_values.specs.declared.world.ClientActivity.{ClientActivity}
use Rattle.kernel_values.specs.declared.world.ClientActivity.TheVariants as activity
use Rattle.kernel_values.specs.declared.world.ClientState.{ClientState}
use Rattle.kernel_values.specs.declared.world.ClientWait.{ClientWait}
use Rattle.kernel_values.specs.declared.world.Device.{Device}
use Rattle.kernel_values.specs.declared.world.Driver.{Driver}
use Rattle.kernel_types.specs.Clients.{client_changed, client_ended, client_running}
use Rattle.kernel_types.specs.Objects.{map_at}
use Rattle.kernel_types.specs.Outcome.{no_seqs}
use Rattle.kernel_types.specs.Step.{Stepped}
use Rattle.kernel_types.specs.Waits.{is_due}
use Rattle.ns_driver.specs.Acts.{DriverOutcome, acted, awaited, bare, has_answer, told, wait_if}
use Rattle.ns_driver.specs.Worlds.{clients_with, deadline_after}
use Rattle.ns_bridge.specs.Parts.{Normal, state_of, with_clients}

-- an answer, and the normal world after it
pub record Answered : Type 0 where
  pub answer : Answer
  pub normal : Normal

-- such a step of the whole kernel moves no message and leaves the core and the device
abbrev pub beside : CoreState → Device → Answered → Stepped
beside c d a = record { answer = a.answer; seqs = no_seqs; state = state_of c d a.normal }

abbrev pub answered_if : Option Answer → Normal → Option Answered
answered_if None n = None
answered_if (Some answer) n = Some (record { answer = answer; normal = n })

abbrev pub with_told : List ClientState → DriverOutcome → Answered
with_told clients t = record { answer = t.answer; normal = record { memory = t.memory; driver = t.driver; clients = clients } }

-- what a client does
abbrev pub activity_at : List ClientState → ℕ → Option ClientActivity
activity_at clients client = option_map (λ state. state.activity) (slice_get clients client)

-- A call, by its kind: the driver makes those of its own and those past it, a client that finishes has ended, and a system call is none.

abbrev pub clients_called : ℕ → ℕ → Call → Normal → Answer → List ClientState
clients_called clock client asked n answer = clients_with client (deadline_after clock asked) (wait_if (awaited n.driver asked) answer) n.clients

abbrev pub call_told : ℕ → ℕ → Call → Normal → DriverOutcome → Answered
call_told clock client asked n t = with_told (clients_called clock client asked n t.answer) t

unfoldable pub asked_of_driver : ℕ → ℕ → Call → Normal → Option Answered
asked_of_driver clock client asked n =
    option_map (call_told clock client asked n) (option_map told (acted client None (Some asked) (bare n.memory n.driver)))

abbrev pub finished : ℕ → Normal → Answered
finished client n = record { answer = answer.Gives reply.Done; normal = with_clients (map_at (client_changed client_ended) n.clients client) n }

abbrev pub called_by : CallKind → ℕ → ℕ → Call → Normal → Option Answered
called_by kind.Thread clock client asked n = None
called_by kind.Finish clock client asked n = Some (finished client n)
called_by other clock client asked n = asked_of_driver clock client asked n

unfoldable pub called : ℕ → ℕ → Call → Normal → Option Answered
called clock client asked n = called_by (kind_of asked) clock client asked n

abbrev pub called_as : ℕ → ℕ → ℕ → Call → Normal → ClientActivity → Option Answered
called_as clock client start asked n (activity.Running running) = (if running == start then called clock client asked n else None)
called_as clock client start asked n other = None

abbrev pub called_of : ℕ → ℕ → ℕ → Call → Normal → Option ClientActivity → Option Answered
called_of clock client start asked n None = None
called_of clock client start asked n (Some activity) = called_as clock client start asked n activity

unfoldable pub client_called : ℕ → ℕ → ℕ → Call → Normal → Option Answered
client_called clock client start asked n = called_of clock client start asked n (activity_at n.clients client)

-- The end of a wait: the driver's answer, or CANCELLED or TIMED_OUT where it has none.

abbrev pub ended_answer : Bool → Answer → Answer
ended_answer cancelled answer.Waits = answer.Refuses (if cancelled then errno.Cancelled else errno.TimedOut)
ended_answer cancelled other = other

-- where the driver still waits, the wait ends only cancelled or late
abbrev pub is_over : Bool → Bool → Answer → Bool
is_over cancelled due answer.Waits = cancelled || due
is_over cancelled due other = true

abbrev pub with_ended : Bool → DriverOutcome → DriverOutcome
with_ended cancelled t = record t { answer = ended_answer cancelled t.answer }

abbrev pub ended_told : Bool → Bool → DriverOutcome → Option DriverOutcome
ended_told cancelled due t = (if is_over cancelled due t.answer then Some (with_ended cancelled t) else None)

abbrev pub told_if : Bool → Bool → Option DriverOutcome → Option DriverOutcome
told_if cancelled due None = None
told_if cancelled due (Some t) = ended_told cancelled due t

abbrev pub run_again : ℕ → Normal → DriverOutcome → Answered
run_again client n t = with_told (map_at (client_changed client_running) n.clients client) t

unfoldable pub wait_ended : ℕ → ℕ → ClientWait → Normal → Option Answered
wait_ended clock client wait n =
    option_map (run_again client n) (told_if wait.cancelled (is_due clock wait.deadline) (option_map told (acted client (Some wait.on) None (bare n.memory n.driver))))

abbrev pub resumed_as : ℕ → ℕ → ℕ → Normal → ClientActivity → Option Answered
resumed_as clock client start n (activity.Waiting waiting wait) = (if waiting == start then wait_ended clock client wait n else None)
resumed_as clock client start n other = None

abbrev pub resumed_of : ℕ → ℕ → ℕ → Normal → Option ClientActivity → Option Answered
resumed_of clock client start n None = None
resumed_of clock client start n (Some activity) = resumed_as clock client start n activity

unfoldable pub client_resumed : ℕ → ℕ → ℕ → Normal → Option Answered
client_resumed clock client start n = resumed_of clock client start n (activity_at n.clients client)

-- What a client's event comes to, or nothing where it is not lawful; the client is told by its number among the clients.
unfoldable pub client_acted : ℕ → ℕ → Event → Normal → Option Answered
client_acted clock client (event.Begin actor start asked) n = client_called clock client start asked n
client_acted clock client (event.Resume actor start) n = client_resumed clock client start n
client_acted clock client other n = None

-- how many connections a call may add
abbrev pub requests : Call → ℕ
requests (call.NsConnect path) = 1
requests other = 0

-- an address of 32 bits is left for each of them
abbrev pub HasRoomFor : ℕ → Call → Type 0
HasRoomFor asked (call.NsConnect path) = asked + 1025 < 4294967296
HasRoomFor asked other = Unit {0}

-- Whether a wait has an end: an answer, or it was cancelled or is late.

unfoldable pub wait_moves : ℕ → ClientWait → List ℕ → Driver → Bool
wait_moves clock wait memory driver = has_answer (Some wait.on) (bare memory driver) || (wait.cancelled || is_due clock wait.deadline)

abbrev pub activity_moves : ℕ → List ℕ → Driver → ClientActivity → Bool
activity_moves clock memory driver (activity.Waiting start wait) = wait_moves clock wait memory driver
activity_moves clock memory driver other = false

abbrev pub activity_moves_if : ℕ → List ℕ → Driver → Option ClientActivity → Bool
activity_moves_if clock memory driver None = false
activity_moves_if clock memory driver (Some activity) = activity_moves clock memory driver activity

unfoldable pub state_moves : ℕ → List ℕ → Driver → ClientState → Bool
state_moves clock memory driver state = activity_moves clock memory driver state.activity
