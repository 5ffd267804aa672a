-- What a call and the end of a wait come to in any world, by what they come to where only the memory and the driver are: the
-- device stays, and a client gets a wait or keeps it.
use Rattle.std.specs.Prelude.{◌≡◌, ℕ, Bool, ◌||◌, List, Option, Some, None, IsTrue, if◌then◌else◌}
use Rattle.std.specs.Option.{option_map, unwrap_or, is_some}
use Rattle.kernel_values.specs.declared.call.Call.{Call}
use Rattle.kernel_values.specs.declared.call.Call.TheVariants as call
use Rattle.kernel_values.specs.declared.errno.Errno.TheVariants as errno
use Rattle.kernel_values.specs.declared.reply.Answer.{Answer}
use Rattle.kernel_values.specs.declared.reply.Answer.TheVariants as answer
use Rattle.kernel_types.specs.Objects.{map_at}
use Rattle.kernel_types.specs.Waits.{deadline_of, is_due}
use Rattle.kernel_values.specs.declared.world.ClientState.{ClientState}
use Rattle.kernel_values.specs.declared.world.ClientWait.{ClientWait}
use Rattle.kernel_values.specs.declared.world.ClientWaitOn.{ClientWaitOn}
use Rattle.kernel_values.specs.declared.world.World.{World}
use Rattle.kernel_types.specs.Clients.{Acted, ns_act, ns_refuses, answer_of_wait, end_of_ns_wait, client_changed, client_waiting, new_wait}
use Rattle.kernel_values.specs.Calls.{is_client_call}
use Rattle.kernel_types.specs.Drains.{drained}
use Rattle.ns_driver.specs.Acts.{bare, begun, still_waits, awaited, wait_if, has_answer}

-- the world with the memory and the driver of another, and with these clients
abbrev pub in_world : List ClientState → World → Acted → Acted
in_world clients w a = record a { world = record w { memory = a.world.memory; driver = a.world.driver; clients = clients } }

-- A call that waits gives its client a wait, with a deadline where it has one.

abbrev pub deadline_after : ℕ → Call → Option ℕ
deadline_after clock (call.NsRecv conn timeout) = deadline_of clock timeout
deadline_after clock other = None

abbrev pub clients_with : ℕ → Option ℕ → Option ClientWaitOn → List ClientState → List ClientState
clients_with client deadline None clients = clients
clients_with client deadline (Some on) clients = map_at (client_changed (client_waiting (new_wait on deadline))) clients client

abbrev pub clients_after : ℕ → ℕ → Call → World → Answer → List ClientState
clients_after clock client call w answer = clients_with client (deadline_after clock call) (wait_if (awaited w.driver call) answer) w.clients

abbrev pub begun_in : ℕ → ℕ → Call → World → Acted → Acted
begun_in clock client call w a = in_world (clients_after clock client call w a.answer) w a

abbrev pub CallsAnywhere : Type 0
CallsAnywhere = (clock client : ℕ) (call : Call) (w : World) → IsTrue (is_client_call call)
    → ns_act clock client call w ≡ option_map (begun_in clock client call w) (begun client call (bare w.memory w.driver))

-- Where the driver still waits, a wait that was cancelled or is late ends all the same.

abbrev pub ended_if : Bool → Bool → World → Option Acted
ended_if cancelled due w = (if cancelled then Some (ns_refuses errno.Cancelled w) else if due then Some (ns_refuses errno.TimedOut w) else None)

abbrev pub ended : ℕ → ClientWait → Answer → Acted → Option Acted
ended clock wait answer.Waits a = ended_if wait.cancelled (is_due clock wait.deadline) a.world
ended clock wait other a = Some a

abbrev pub resumed_by : ClientWaitOn → World → Acted
resumed_by on w = unwrap_or (answer_of_wait on (drained w)) (still_waits (drained w))

abbrev pub resumed_in : ClientWaitOn → World → Acted
resumed_in on w = in_world w.clients w (resumed_by on (bare w.memory w.driver))

abbrev pub WaitsEndAnywhere : Type 0
WaitsEndAnywhere = (clock : ℕ) (wait : ClientWait) (w : World)
    → end_of_ns_wait clock wait (drained w) ≡ ended clock wait (resumed_in wait.on w).answer (resumed_in wait.on w)

abbrev pub WaitsMoveAnywhere : Type 0
WaitsMoveAnywhere = (clock : ℕ) (wait : ClientWait) (w : World)
    → is_some (end_of_ns_wait clock wait (drained w)) ≡ (has_answer (Some wait.on) (bare w.memory w.driver) || (wait.cancelled || is_due clock wait.deadline))
