-- The calls of the normal world's clients, and how their waits end.
use Rattle.std.specs.Prelude.{ℕ, Bool, true, false, List, [], ◌∷◌, ◌++◌, ◌+◌, ◌==◌, ◌||◌, not, nat_lt, length, min, Option, Some, None, if◌then◌else◌}
use Rattle.std.specs.Option.{is_some}
use Rattle.kernel_values.specs.Words.{is_path}
use Rattle.kernel_values.specs.declared.call.Call.{Call}
use Rattle.kernel_values.specs.declared.call.Call.TheVariants as call
use Rattle.kernel_values.specs.declared.call.Timeout.{Timeout}
use Rattle.kernel_values.specs.declared.errno.Errno.{Errno}
use Rattle.kernel_values.specs.declared.errno.Errno.TheVariants as errno
use Rattle.kernel_values.specs.declared.reply.Answer.{Answer}
use Rattle.kernel_values.specs.declared.reply.Answer.TheVariants as answer
use Rattle.kernel_values.specs.declared.reply.Reply.{Reply}
use Rattle.kernel_values.specs.declared.reply.Reply.TheVariants as reply
use Rattle.kernel_types.specs.Objects.{map_at}
use Rattle.kernel_types.specs.Waits.{deadline_of, is_zero_timeout, is_due}
use Rattle.virtqueue.specs.Layout.{written_at, published}
use Rattle.kernel_values.specs.declared.world.Connection.{Connection}
use Rattle.kernel_values.specs.declared.world.ConnectionStatus.{ConnectionStatus}
use Rattle.kernel_values.specs.declared.world.ConnectionStatus.TheVariants as connection_status
use Rattle.kernel_values.specs.declared.world.ClientActivity.{ClientActivity}
use Rattle.kernel_values.specs.declared.world.ClientActivity.TheVariants as activity
use Rattle.kernel_values.specs.declared.world.ClientState.{ClientState}
use Rattle.kernel_values.specs.declared.world.ClientWait.{ClientWait}
use Rattle.kernel_values.specs.declared.world.ClientWaitOn.{ClientWaitOn}
use Rattle.kernel_values.specs.declared.world.ClientWaitOn.TheVariants as wait_on
use Rattle.kernel_values.specs.declared.world.World.{World}
use Rattle.kernel_types.specs.Errors.{error_of}
use Rattle.kernel_types.specs.GuestMemory.{memory_size, ring, with_frame}
use Rattle.kernel_types.specs.Sending.{frame, request_frame, leave_frame}
use Rattle.kernel_types.specs.Drains.{connection_of, connection_changed, with_driver, drained}

-- What a call or the end of a wait comes to: its answer, the world after it, and the frame that went out, where one did.
pub record Acted : Type 0 where
  pub answer : Answer
  pub world : World
  pub frame : Option (List ℕ)

abbrev pub ns_gives : Reply → World → Acted
ns_gives reply w = record { answer = answer.Gives reply; world = w; frame = None }

abbrev pub ns_refuses : Errno → World → Acted
ns_refuses errno w = record { answer = answer.Refuses errno; world = w; frame = None }

-- Clients: which run, wait and have ended.

abbrev pub client_waiting : ClientWait → ClientActivity → ClientActivity
client_waiting wait (activity.Running start) = activity.Waiting start wait
client_waiting wait other = other

abbrev pub client_running : ClientActivity → ClientActivity
client_running (activity.Waiting start wait) = activity.Running start
client_running other = other

abbrev pub client_ended : ClientActivity → ClientActivity
client_ended (activity.Running start) = activity.Ended start
client_ended other = other

abbrev pub client_cancelled : ClientActivity → ClientActivity
client_cancelled (activity.Waiting start wait) = activity.Waiting start (record wait { cancelled = true })
client_cancelled other = other

abbrev pub client_changed : (ClientActivity → ClientActivity) → ClientState → ClientState
client_changed change client = record client { activity = change client.activity }

abbrev pub with_client : (ClientActivity → ClientActivity) → ℕ → World → World
with_client change client w = record w { clients = map_at (client_changed change) w.clients client }

abbrev pub new_wait : ClientWaitOn → Option ℕ → ClientWait
new_wait on deadline = record { on = on; deadline = deadline; cancelled = false }

abbrev pub ns_waits : ℕ → ClientWaitOn → Option ℕ → World → Acted
ns_waits client on deadline w = record { answer = answer.Waits; world = with_client (client_waiting (new_wait on deadline)) client w; frame = None }

-- A frame goes out in the buffer of the least free descriptor of queue 1, where there is one; `after` is what the call
-- then comes to.

abbrev pub sent_in : ℕ → List ℕ → List ℕ → World → World
sent_in place rest frame w = record w { memory = with_frame w.driver.size place frame w.memory; driver = record w.driver { free = rest } }

abbrev pub with_sent : List ℕ → Acted → Acted
with_sent frame acted = record acted { frame = Some frame }

abbrev pub send_by : List ℕ → List ℕ → (World → Acted) → World → Acted
send_by [] frame after w = ns_refuses errno.NotEnoughBuffer w
send_by (place ∷ rest) frame after w = with_sent frame (after (sent_in place rest frame w))

unfoldable pub send_frame : List ℕ → (World → Acted) → World → Acted
send_frame frame after w = send_by w.driver.free frame after w

-- `nconnect`: a connection is asked for, and the call waits for the answer

abbrev pub first_address : ℕ
first_address = 1024

abbrev pub next_address : World → ℕ
next_address w = first_address + length w.driver.connections

abbrev pub asked_connection : ℕ → ℕ → Connection
asked_connection address client = record { address = address; client = client; status = connection_status.Asked; inbox = [] }

abbrev pub with_connection : Connection → World → World
with_connection connection w = with_driver (record w.driver { connections = w.driver.connections ++ connection ∷ [] }) w

abbrev pub asks : ℕ → ℕ → World → Acted
asks client address w = ns_waits client (wait_on.Connect address) None (with_connection (asked_connection address client) w)

unfoldable pub ns_connect_call : ℕ → List ℕ → World → Acted
ns_connect_call client path w =
    (if not (is_path path) then ns_refuses errno.InvalidArgs w
    else send_frame (request_frame (next_address w) path) (asks client (next_address w)) w)

-- a connection of this client
abbrev pub owned_by : ℕ → Option Connection → Option Connection
owned_by client None = None
owned_by client (Some connection) = (if connection.client == client then Some connection else None)

abbrev pub own_connection : ℕ → ℕ → World → Option Connection
own_connection client conn w = owned_by client (connection_of w.driver.connections conn)

-- `nsend`: the bytes go to the device's address of the connection

abbrev pub send_limit : ℕ
send_limit = 4096

abbrev pub counts : ℕ → World → Acted
counts count w = ns_gives (reply.Count count) w

abbrev pub send_established : ℕ → ℕ → ℕ → List ℕ → World → Acted
send_established address remote size bytes w =
    (if nat_lt (min size send_limit) (length bytes) then ns_refuses errno.TooBig w
    else send_frame (frame address remote bytes) (counts (length bytes)) w)

abbrev pub send_by_status : ℕ → ConnectionStatus → List ℕ → World → Acted
send_by_status address connection_status.Asked bytes w = ns_refuses errno.NotReady w
send_by_status address (connection_status.Established remote size) bytes w = send_established address remote size bytes w
send_by_status address other bytes w = ns_refuses errno.ChannelClosed w

abbrev pub send_on : Option Connection → List ℕ → World → Acted
send_on None bytes w = ns_refuses errno.BadHandle w
send_on (Some connection) bytes w = send_by_status connection.address connection.status bytes w

unfoldable pub ns_send_call : ℕ → ℕ → List ℕ → World → Acted
ns_send_call client conn bytes w = send_on (own_connection client conn w) bytes w

-- What a wait has for an answer in a drained world, or nothing: a connect once its connection is no longer only asked
-- for; a receive the oldest message, or where none is left and the connection is over, CHANNEL_CLOSED.

abbrev pub connect_answer_of : Connection → ConnectionStatus → World → Option Acted
connect_answer_of asked connection_status.Asked w = None
connect_answer_of asked (connection_status.Denied status) w = Some (ns_refuses (error_of status) w)
connect_answer_of asked other w = Some (ns_gives (reply.Conn asked.address) w)

abbrev pub connect_answer : Option Connection → World → Option Acted
connect_answer None w = None
connect_answer (Some asked) w = connect_answer_of asked asked.status w

abbrev pub is_closed : ConnectionStatus → Bool
is_closed (connection_status.Denied status) = true
is_closed connection_status.Shut = true
is_closed other = false

abbrev pub with_inbox : List (List ℕ) → Connection → Connection
with_inbox inbox connection = record connection { inbox = inbox }

abbrev pub inbox_changed : List (List ℕ) → ℕ → World → World
inbox_changed inbox address w = with_driver (record w.driver { connections = connection_changed (with_inbox inbox) w.driver.connections address }) w

abbrev pub receive_from : Connection → List (List ℕ) → World → Option Acted
receive_from connection (bytes ∷ rest) w = Some (ns_gives (reply.Bytes bytes []) (inbox_changed rest connection.address w))
receive_from connection [] w = (if is_closed connection.status then Some (ns_refuses errno.ChannelClosed w) else None)

abbrev pub receive_answer : Option Connection → World → Option Acted
receive_answer None w = None
receive_answer (Some connection) w = receive_from connection connection.inbox w

unfoldable pub answer_of_wait : ClientWaitOn → World → Option Acted
answer_of_wait (wait_on.Connect conn) w = connect_answer (connection_of w.driver.connections conn) w
answer_of_wait (wait_on.Receive conn) w = receive_answer (connection_of w.driver.connections conn) w

-- `nrecv`: with an answer it comes in this step, with timeout 0 too; else the call waits

abbrev pub receive_or_wait : ℕ → ℕ → ℕ → Timeout → Option Acted → World → Acted
receive_or_wait clock client conn timeout (Some acted) w = acted
receive_or_wait clock client conn timeout None w =
    (if is_zero_timeout timeout then ns_refuses errno.TimedOut w
    else ns_waits client (wait_on.Receive conn) (deadline_of clock timeout) w)

abbrev pub is_asked : ConnectionStatus → Bool
is_asked connection_status.Asked = true
is_asked other = false

abbrev pub receive_on : ℕ → ℕ → Option Connection → Timeout → World → Acted
receive_on clock client None timeout w = ns_refuses errno.BadHandle w
receive_on clock client (Some connection) timeout w =
    (if is_asked connection.status then ns_refuses errno.NotReady w
    else receive_or_wait clock client connection.address timeout (receive_from connection connection.inbox w) w)

unfoldable pub ns_recv_call : ℕ → ℕ → ℕ → Timeout → World → Acted
ns_recv_call clock client conn timeout w = receive_on clock client (own_connection client conn w) timeout w

-- `nclose`: the device is told, and what is left of the inbox goes

abbrev pub closed_connection : Connection → Connection
closed_connection connection = record connection { status = connection_status.Shut; inbox = [] }

abbrev pub shuts : ℕ → World → Acted
shuts address w = ns_gives reply.Done (with_driver (record w.driver { connections = connection_changed closed_connection w.driver.connections address }) w)

abbrev pub close_by_status : ℕ → ConnectionStatus → World → Acted
close_by_status address connection_status.Asked w = ns_refuses errno.NotReady w
close_by_status address (connection_status.Established remote size) w = send_frame (leave_frame address remote) (shuts address) w
close_by_status address other w = ns_refuses errno.ChannelClosed w

abbrev pub close_on : Option Connection → World → Acted
close_on None w = ns_refuses errno.BadHandle w
close_on (Some connection) w = close_by_status connection.address connection.status w

unfoldable pub ns_close_call : ℕ → ℕ → World → Acted
ns_close_call client conn w = close_on (own_connection client conn w) w

-- `npoke`: the bytes stand at the address from now on, wherever that is

unfoldable pub ns_poke_call : ℕ → List ℕ → World → Acted
ns_poke_call addr bytes w =
    (if nat_lt memory_size (addr + length bytes) then ns_refuses errno.InvalidArgs w
    else ns_gives reply.Done (record w { memory = written_at addr bytes w.memory }))

-- `nkick`: a head is published, whatever it is

abbrev pub greatest_head : ℕ
greatest_head = 65535

unfoldable pub ns_kick_call : ℕ → ℕ → World → Acted
ns_kick_call queue head w =
    (if nat_lt 1 queue || nat_lt greatest_head head then ns_refuses errno.InvalidArgs w
    else ns_gives reply.Done (record w { memory = published w.memory (ring queue w.driver.size) head }))

-- A call of a client that runs: the first four drain both queues before they act; a call of a thread is none, but `finish`
-- is one.

unfoldable pub ns_act : ℕ → ℕ → Call → World → Option Acted
ns_act clock client (call.NsConnect path) w = Some (ns_connect_call client path (drained w))
ns_act clock client (call.NsSend conn bytes) w = Some (ns_send_call client conn bytes (drained w))
ns_act clock client (call.NsRecv conn timeout) w = Some (ns_recv_call clock client conn timeout (drained w))
ns_act clock client (call.NsClose conn) w = Some (ns_close_call client conn (drained w))
ns_act clock client (call.NsPoke addr bytes) w = Some (ns_poke_call addr bytes w)
ns_act clock client (call.NsKick queue head) w = Some (ns_kick_call queue head w)
ns_act clock client call.Finish w = Some (ns_gives reply.Done (with_client client_ended client w))
ns_act clock client other w = None

-- The end of a wait, in a drained world, by the first that holds: its answer, CANCELLED, TIMED_OUT. A wait that has none of
-- these may not move.

abbrev pub end_by_answer : ℕ → ClientWait → Option Acted → World → Option Acted
end_by_answer clock wait (Some acted) w = Some acted
end_by_answer clock wait None w =
    (if wait.cancelled then Some (ns_refuses errno.Cancelled w)
    else if is_due clock wait.deadline then Some (ns_refuses errno.TimedOut w)
    else None)

unfoldable pub end_of_ns_wait : ℕ → ClientWait → World → Option Acted
end_of_ns_wait clock wait w = end_by_answer clock wait (answer_of_wait wait.on w) w

abbrev pub client_may_move : ℕ → World → ClientActivity → Bool
client_may_move clock w (activity.Waiting start wait) = is_some (end_of_ns_wait clock wait (drained w))
client_may_move clock w other = false
