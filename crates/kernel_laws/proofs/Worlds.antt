-- A client's call or the end of its wait: as many clients stay, what came for a connection came in one buffer each, and the answer fits.
use Rattle.std.proofs.Common.{◌≡◌, ◌≤◌, ℕ, zero, suc, ◌+◌, ◌==◌, ◌||◌, Bool, true, false, cond, not, List, [], ◌∷◌, ◌++◌, length, map, min, drop, Option, Some, None, refl, ◌∙◌, arith, tests, length-take, length-drop}
use Rattle.std.specs.Prelude.{nat_lt, slice_get, Result, Ok, Err}
use Rattle.std.specs.List.{All, AllByRecursion, filter, fold}
use Rattle.std.specs.Option.{option_map}
use Rattle.std.proofs.lemmas.List.Elements.{All-nil, All-push, All-from_recursion, recursion_from_All}
use Rattle.kernel_values.specs.Words.{is_path}
use Rattle.kernel_values.specs.declared.call.Call.{Call}
use Rattle.kernel_values.specs.declared.call.Call.TheVariants as call
use Rattle.kernel_values.specs.declared.call.Timeout.{Timeout}
use Rattle.kernel_values.specs.declared.errno.Errno.{Errno}
use Rattle.kernel_values.specs.declared.errno.Errno.TheVariants as errno
use Rattle.kernel_values.specs.declared.reply.Reply.{Reply}
use Rattle.kernel_values.specs.declared.reply.Reply.TheVariants as reply
use Rattle.kernel_values.specs.declared.state.State.{State}
use Rattle.kernel_values.specs.declared.world.ClientActivity.{ClientActivity}
use Rattle.kernel_values.specs.declared.world.ClientActivity.TheVariants as activity
use Rattle.kernel_values.specs.declared.world.ClientState.{ClientState}
use Rattle.kernel_values.specs.declared.world.ClientWait.{ClientWait}
use Rattle.kernel_values.specs.declared.world.ClientWaitOn.{ClientWaitOn}
use Rattle.kernel_values.specs.declared.world.ClientWaitOn.TheVariants as wait_on
use Rattle.kernel_values.specs.declared.world.Connection.{Connection}
use Rattle.kernel_values.specs.declared.world.ConnectionStatus.{ConnectionStatus}
use Rattle.kernel_values.specs.declared.world.ConnectionStatus.TheVariants as connection_status
use Rattle.kernel_values.specs.declared.world.World.{World}
use Rattle.virtqueue.specs.Layout.{published, written_at}
use Rattle.tipc_proto.specs.declared.frames.Frame.{Frame}
use Rattle.tipc_proto.specs.declared.faults.FrameFault.{FrameFault}
use Rattle.tipc_proto.specs.declared.controls.Control.{Control}
use Rattle.tipc_proto.specs.declared.controls.Control.TheVariants.{GoOnline, GoOffline, ConnReq, ConnRsp, DiscReq}
use Rattle.tipc_proto.specs.Frames.{frame_in}
use Rattle.tipc_proto.specs.Controls.{control_in}
use Rattle.kernel_types.specs.Errors.{error_of}
use Rattle.kernel_types.specs.GuestMemory.{UsedElement, buffer_size, memory_size, new_elements, read_at, buffer_start, ring}
use Rattle.kernel_types.specs.Limits.{FitsIn, IsInboxWithin, IsSmallAnswer, Room, bytes_of_reply, full_room, handles_of_reply, listed_in_reply, no_room, room_of_call}
use Rattle.kernel_types.specs.Sending.{control_address, frame, leave_frame, request_frame}
use Rattle.kernel_types.specs.Waits.{deadline_of, is_due, is_zero_timeout}
use Rattle.kernel_types.specs.Drains.{answered_status, connection_changed, connection_of, connection_place, deliver_control, deliver_frame, delivered, drained, drained_frames, frame_at, from_normal_drained, is_readable, left_status, received_by, status_changed, to_normal_drained, with_bytes}
use Rattle.kernel_types.specs.Clients.{Acted, answer_of_wait, asked_connection, asks, client_changed, client_ended, client_running, client_waiting, close_by_status, close_on, closed_connection, connect_answer, connect_answer_of, counts, end_by_answer, end_of_ns_wait, greatest_head, inbox_changed, is_asked, is_closed, new_wait, next_address, ns_act, ns_close_call, ns_connect_call, ns_gives, ns_kick_call, ns_poke_call, ns_recv_call, ns_refuses, ns_send_call, ns_waits, own_connection, owned_by, receive_answer, receive_from, receive_on, receive_or_wait, send_by, send_by_status, send_established, send_frame, send_limit, send_on, sent_in, shuts, with_client, with_connection, with_inbox, with_sent}
use Rattle.kernel_types.specs.Step.{client_begin, client_call_as, client_call_of, client_resume, client_resume_as, client_resume_of, runs_again}
use Rattle.kernel_laws.proofs.Mapped.{map_at_same}
use Rattle.kernel_laws.proofs.Within.{all_map_at}

-- Clients are told by their number alone.
abbrev pub nobody : ClientState → Option ℕ
nobody client = None

abbrev pub Inboxes : List Connection → Type 0
Inboxes connections = AllByRecursion IsInboxWithin connections

abbrev pub InboxesOf : World → Type 0
InboxesOf w = Inboxes w.driver.connections

abbrev Short : List ℕ → Type 0
Short bytes = length bytes ≤ buffer_size

-- a change of the world leaves as many clients, the device, and what is in inboxes short
pub record Leaves (w v : World) : Type 0 where
  pub clients : map nobody v.clients ≡ map nobody w.clients
  pub device : v.device ≡ w.device
  pub inboxes : InboxesOf w → InboxesOf v

leaves_none : (w : World) → Leaves w w
leaves_none w = record { clients = refl; device = refl; inboxes = λ short. short }

leaves_both : (u w v : World) → Leaves u w → Leaves w v → Leaves u v
leaves_both u w v one other = record { clients = other.clients ∙ one.clients; device = other.device ∙ one.device; inboxes = λ short. other.inboxes (one.inboxes short) }

leaves_client : (w : World) (change : ClientActivity → ClientActivity) (client : ℕ) → Leaves w (with_client change client w)
leaves_client w change client = record { clients = map_at_same nobody (client_changed change) (λ x. refl) w.clients client; device = refl; inboxes = λ short. short }

-- what a call of a client comes to
pub record Acts (room : Room) (w : World) (acted : Acted) : Type 0 where
  pub world : Leaves w acted.world
  pub small : InboxesOf w → IsSmallAnswer acted.answer
  pub fits : InboxesOf w → FitsIn room acted.answer

abbrev pub ActsIf : Room → World → Option Acted → Type 0
ActsIf room w None = Unit {0}
ActsIf room w (Some acted) = Acts room w acted

gives_well : (room : Room) (w v : World) → Leaves w v → (reply : Reply) → bytes_of_reply reply ≤ 0 → handles_of_reply reply ≤ 8 → listed_in_reply reply ≤ 0 → Acts room w (ns_gives reply v)
gives_well room w v leaves reply bytes handles listed = record {
  world = leaves;
  small = λ short. record { bytes = omega (arith, bytes); handles = handles };
  fits = λ short. record { bytes = omega (arith, bytes); handles = omega (arith, listed) };
}

refuses_well : (room : Room) (w v : World) → Leaves w v → (errno : Errno) → Acts room w (ns_refuses errno v)
refuses_well room w v leaves errno = record {
  world = leaves;
  small = λ short. record { bytes = omega arith; handles = omega arith };
  fits = λ short. record { bytes = omega arith; handles = omega arith };
}

waits_well : (room : Room) (w v : World) → Leaves w v → (client : ℕ) (on : ClientWaitOn) (deadline : Option ℕ) → Acts room w (ns_waits client on deadline v)
waits_well room w v leaves client on deadline = record {
  world = leaves_both w v _ leaves (leaves_client v (client_waiting (new_wait on deadline)) client);
  small = λ short. record { bytes = omega arith; handles = omega arith };
  fits = λ short. record { bytes = omega arith; handles = omega arith };
}

acts_after : (room : Room) (u w : World) (acted : Acted) → Leaves u w → Acts room w acted → Acts room u acted
acts_after room u w acted leaves acts = record {
  world = leaves_both u w acted.world leaves acts.world;
  small = λ short. acts.small (leaves.inboxes short);
  fits = λ short. acts.fits (leaves.inboxes short);
}

after_if : (room : Room) (u w : World) (o : Option Acted) → Leaves u w → ActsIf room w o → ActsIf room u o
after_if room u w None leaves acts = tt
after_if room u w (Some acted) leaves acts = acts_after room u w acted leaves acts

acts_if : (room : Room) (w : World) (b : Bool) (one other : Acted) → Acts room w one → Acts room w other → Acts room w (cond b one other)
acts_if room w b one other f g = elim b as (λ v. Acts room w (cond v one other)) [ true ↦ f | false ↦ g ]

-- Drains.

same_inbox : (change : ConnectionStatus → ConnectionStatus) (connection : Connection) → IsInboxWithin connection → IsInboxWithin (status_changed change connection)
same_inbox change connection short = short

with_bytes_short : (bytes : List ℕ) → Short bytes → (status : ConnectionStatus) (inbox : List (List ℕ)) → All Short inbox → All Short (with_bytes bytes status inbox)
with_bytes_short bytes short (connection_status.Established remote size) inbox all = All-push Short inbox bytes all short
with_bytes_short bytes short connection_status.Asked inbox all = all
with_bytes_short bytes short (connection_status.Denied status) inbox all = all
with_bytes_short bytes short connection_status.Shut inbox all = all

inboxes_changed : (change : Connection → Connection) → ((connection : Connection) → IsInboxWithin connection → IsInboxWithin (change connection))
    → (connections : List Connection) (address : ℕ) → Inboxes connections → Inboxes (connection_changed change connections address)
inboxes_changed change keeps connections address short = all_map_at IsInboxWithin change keeps connections (connection_place connections address) short

control_delivered : (connections : List Connection) → Inboxes connections → (r : Result Control FrameFault) → Inboxes (deliver_control connections r)
control_delivered connections short (Ok (ConnRsp target status remote size count)) =
    inboxes_changed (status_changed (answered_status status remote size)) (same_inbox (answered_status status remote size)) connections target short
control_delivered connections short (Ok (DiscReq target)) = inboxes_changed (status_changed left_status) (same_inbox left_status) connections target short
control_delivered connections short (Ok GoOnline) = short
control_delivered connections short (Ok GoOffline) = short
control_delivered connections short (Ok (ConnReq path)) = short
control_delivered connections short (Err fault) = short

frame_delivered : (connections : List Connection) → Inboxes connections → (payload : List ℕ) → Short payload → (r : Result Frame FrameFault) → Inboxes (deliver_frame connections payload r)
frame_delivered connections short payload few (Err fault) = short
frame_delivered connections short payload few (Ok f) =
    elim (f.dst == control_address) as (λ b. Inboxes (cond b (deliver_control connections (control_in payload)) (connection_changed (received_by payload) connections f.dst))) [
      | true ↦ control_delivered connections short (control_in payload)
      | false ↦ inboxes_changed (received_by payload) (λ connection all. with_bytes_short payload few connection.status connection.inbox all) connections f.dst short
    ]

all_delivered : (connections : List Connection) → Inboxes connections → (frames : List (List ℕ)) → AllByRecursion Short frames → Inboxes (fold delivered connections frames)
unfolding delivered
all_delivered connections short [] few = short
all_delivered connections short (bytes ∷ frames) few =
    let payload : Short (drop 16 bytes) = omega (arith, few.0, length-drop 16 bytes) in
    all_delivered (delivered connections bytes) (frame_delivered connections short (drop 16 bytes) payload (frame_in bytes)) frames few.1

frame_short : (size : ℕ) (memory : List ℕ) (element : UsedElement) → is_readable size element ≡ true → Short (frame_at memory element)
unfolding read_at
frame_short size memory element is =
    let few : element.len ≤ buffer_size = grind (arith, tests) in
    omega (arith, few, length-take element.len (drop (buffer_start 0 element.id) memory))

frames_short : (size : ℕ) (memory : List ℕ) (elements : List UsedElement) → AllByRecursion Short (map (frame_at memory) (filter (is_readable size) elements))
frames_short size memory [] = tt
frames_short size memory (element ∷ elements) =
    let rest : AllByRecursion Short (map (frame_at memory) (filter (is_readable size) elements)) = frames_short size memory elements in
    let P : Bool → Type 0 = λ b. is_readable size element ≡ b → AllByRecursion Short (map (frame_at memory) (cond b (element ∷ filter (is_readable size) elements) (filter (is_readable size) elements))) in
    let go : (b : Bool) → P b = λ b. elim b as (λ v. P v) [ true ↦ (λ is. (frame_short size memory element is, rest)) | false ↦ (λ is. rest) ] in
    go (is_readable size element) refl

frames_few : (w : World) → AllByRecursion Short (drained_frames w)
unfolding drained_frames
frames_few w = frames_short w.driver.size w.memory (new_elements w.memory (ring 0 w.driver.size) w.driver.seen_to_normal)

pub leaves_drained : (w : World) → Leaves w (drained w)
unfolding from_normal_drained to_normal_drained
leaves_drained w = record { clients = refl; device = refl; inboxes = λ short. all_delivered w.driver.connections short (drained_frames w) (frames_few w) }

-- Frames that go out.

with_sent_acts : (room : Room) (w : World) (frame : List ℕ) (acted : Acted) → Acts room w acted → Acts room w (with_sent frame acted)
with_sent_acts room w frame acted acts = record { world = acts.world; small = acts.small; fits = acts.fits }

send_by_acts : (room : Room) (w : World) (free frame : List ℕ) (after : World → Acted) → ((v : World) → Leaves w v → Acts room w (after v)) → Acts room w (send_by free frame after w)
send_by_acts room w [] frame after acts = refuses_well room w w (leaves_none w) errno.NotEnoughBuffer
send_by_acts room w (place ∷ rest) frame after acts =
    let v : World = sent_in place rest frame w in
    with_sent_acts room w frame (after v) (acts v (record { clients = refl; device = refl; inboxes = λ short. short }))

send_acts : (room : Room) (w : World) (frame : List ℕ) (after : World → Acted) → ((v : World) → Leaves w v → Acts room w (after v)) → Acts room w (send_frame frame after w)
unfolding send_frame
send_acts room w frame after acts = send_by_acts room w w.driver.free frame after acts

-- Connections.

abbrev InboxIf : Option Connection → Type 0
InboxIf None = Unit {0}
InboxIf (Some connection) = IsInboxWithin connection

inbox_at : (connections : List Connection) → Inboxes connections → (place : ℕ) → InboxIf (slice_get connections place)
inbox_at [] short place = tt
inbox_at (connection ∷ connections) short zero = short.0
inbox_at (connection ∷ connections) short (suc place) = inbox_at connections short.1 place

owned_inbox : (client : ℕ) (o : Option Connection) → InboxIf o → InboxIf (owned_by client o)
owned_inbox client None short = tt
owned_inbox client (Some connection) short = elim (connection.client == client) as (λ b. InboxIf (cond b (Some connection) None)) [ true ↦ short | false ↦ tt ]

own_inbox : (client conn : ℕ) (w : World) → InboxesOf w → InboxIf (own_connection client conn w)
own_inbox client conn w short =
    owned_inbox client (connection_of w.driver.connections conn) (inbox_at w.driver.connections short (connection_place w.driver.connections conn))

inboxes_more : (connections : List Connection) (connection : Connection) → Inboxes connections → IsInboxWithin connection → Inboxes (connections ++ connection ∷ [])
inboxes_more [] connection short one = (one, tt)
inboxes_more (first ∷ connections) connection short one = (short.0, inboxes_more connections connection short.1 one)

asks_acts : (room : Room) (w v : World) → Leaves w v → (client address : ℕ) → Acts room w (asks client address v)
asks_acts room w v leaves client address =
    let asked : Connection = asked_connection address client in
    let more : Leaves v (with_connection asked v) = record { clients = refl; device = refl; inboxes = λ short. inboxes_more v.driver.connections asked short (All-nil Short) } in
    waits_well room w (with_connection asked v) (leaves_both w v (with_connection asked v) leaves more) client (wait_on.Connect address) None

connect_acts : (room : Room) (w : World) (client : ℕ) (path : List ℕ) → Acts room w (ns_connect_call client path w)
unfolding ns_connect_call
connect_acts room w client path =
    let after : World → Acted = asks client (next_address w) in
    let frame : List ℕ = request_frame (next_address w) path in
    acts_if room w (not (is_path path)) (ns_refuses errno.InvalidArgs w) (send_frame frame after w)
    (refuses_well room w w (leaves_none w) errno.InvalidArgs)
    (send_acts room w frame after (λ v leaves. asks_acts room w v leaves client (next_address w)))

established_acts : (room : Room) (w : World) (address remote size : ℕ) (bytes : List ℕ) → Acts room w (send_established address remote size bytes w)
established_acts room w address remote size bytes =
    let after : World → Acted = counts (length bytes) in
    acts_if room w (nat_lt (min size send_limit) (length bytes)) (ns_refuses errno.TooBig w) (send_frame (frame address remote bytes) after w)
    (refuses_well room w w (leaves_none w) errno.TooBig)
    (send_acts room w (frame address remote bytes) after (λ v leaves. gives_well room w v leaves (reply.Count (length bytes)) (omega arith) (omega arith) (omega arith)))

send_status_acts : (room : Room) (w : World) (address : ℕ) (status : ConnectionStatus) (bytes : List ℕ) → Acts room w (send_by_status address status bytes w)
send_status_acts room w address connection_status.Asked bytes = refuses_well room w w (leaves_none w) errno.NotReady
send_status_acts room w address (connection_status.Established remote size) bytes = established_acts room w address remote size bytes
send_status_acts room w address (connection_status.Denied status) bytes = refuses_well room w w (leaves_none w) errno.ChannelClosed
send_status_acts room w address connection_status.Shut bytes = refuses_well room w w (leaves_none w) errno.ChannelClosed

send_call_acts : (room : Room) (w : World) (client conn : ℕ) (bytes : List ℕ) → Acts room w (ns_send_call client conn bytes w)
unfolding ns_send_call
send_call_acts room w client conn bytes =
    elim (own_connection client conn w) as (λ o. Acts room w (send_on o bytes w)) [
      | None ↦ refuses_well room w w (leaves_none w) errno.BadHandle
      | Some connection ↦ send_status_acts room w connection.address connection.status bytes
    ]

-- What a wait has for an answer.

answered_acts : (room : Room) (w : World) (asked : Connection) (status : ConnectionStatus) → ActsIf room w (connect_answer_of asked status w)
answered_acts room w asked connection_status.Asked = tt
answered_acts room w asked (connection_status.Denied status) = refuses_well room w w (leaves_none w) (error_of status)
answered_acts room w asked (connection_status.Established remote size) = gives_well room w w (leaves_none w) (reply.Conn asked.address) (omega arith) (omega arith) (omega arith)
answered_acts room w asked connection_status.Shut = gives_well room w w (leaves_none w) (reply.Conn asked.address) (omega arith) (omega arith) (omega arith)

connect_answer_acts : (room : Room) (w : World) (o : Option Connection) → ActsIf room w (connect_answer o w)
connect_answer_acts room w None = tt
connect_answer_acts room w (Some asked) = answered_acts room w asked asked.status

receive_acts : (w : World) (connection : Connection) (inbox : List (List ℕ)) → (InboxesOf w → AllByRecursion Short inbox) → ActsIf full_room w (receive_from connection inbox w)
receive_acts w connection [] all =
    elim (is_closed connection.status) as (λ b. ActsIf full_room w (cond b (Some (ns_refuses errno.ChannelClosed w)) None)) [
      | true ↦ refuses_well full_room w w (leaves_none w) errno.ChannelClosed
      | false ↦ tt
    ]
receive_acts w connection (bytes ∷ rest) all =
    let shorter : InboxesOf w → InboxesOf (inbox_changed rest connection.address w) =
    λ short. inboxes_changed (with_inbox rest) (λ other some. All-from_recursion Short rest (all short).1) w.driver.connections connection.address short in
    record {
      world = record { clients = refl; device = refl; inboxes = shorter };
      small = λ short. record { bytes = omega (arith, (all short).0); handles = omega arith };
      fits = λ short. record { bytes = omega (arith, (all short).0); handles = omega arith };
    }

receive_answer_acts : (w : World) (o : Option Connection) → (InboxesOf w → InboxIf o) → ActsIf full_room w (receive_answer o w)
receive_answer_acts w None short = tt
receive_answer_acts w (Some connection) short = receive_acts w connection connection.inbox (λ all. recursion_from_All Short connection.inbox (short all))

wait_answer_acts : (w : World) (on : ClientWaitOn) → ActsIf full_room w (answer_of_wait on w)
unfolding answer_of_wait
wait_answer_acts w (wait_on.Connect conn) = connect_answer_acts full_room w (connection_of w.driver.connections conn)
wait_answer_acts w (wait_on.Receive conn) =
    receive_answer_acts w (connection_of w.driver.connections conn) (λ short. inbox_at w.driver.connections short (connection_place w.driver.connections conn))

-- The other calls.

or_wait_acts : (w : World) (clock client conn : ℕ) (timeout : Timeout) (o : Option Acted) → ActsIf full_room w o → Acts full_room w (receive_or_wait clock client conn timeout o w)
or_wait_acts w clock client conn timeout (Some acted) acts = acts
or_wait_acts w clock client conn timeout None acts =
    let waits : Acted = ns_waits client (wait_on.Receive conn) (deadline_of clock timeout) w in
    acts_if full_room w (is_zero_timeout timeout) (ns_refuses errno.TimedOut w) waits (refuses_well full_room w w (leaves_none w) errno.TimedOut)
    (waits_well full_room w w (leaves_none w) client (wait_on.Receive conn) (deadline_of clock timeout))

receive_on_acts : (w : World) (clock client : ℕ) (o : Option Connection) → (InboxesOf w → InboxIf o) → (timeout : Timeout) → Acts full_room w (receive_on clock client o timeout w)
receive_on_acts w clock client None short timeout = refuses_well full_room w w (leaves_none w) errno.BadHandle
receive_on_acts w clock client (Some connection) short timeout =
    let got : Option Acted = receive_from connection connection.inbox w in
    let acts : ActsIf full_room w got = receive_acts w connection connection.inbox (λ all. recursion_from_All Short connection.inbox (short all)) in
    acts_if full_room w (is_asked connection.status) (ns_refuses errno.NotReady w) (receive_or_wait clock client connection.address timeout got w)
    (refuses_well full_room w w (leaves_none w) errno.NotReady) (or_wait_acts w clock client connection.address timeout got acts)

recv_call_acts : (w : World) (clock client conn : ℕ) (timeout : Timeout) → Acts full_room w (ns_recv_call clock client conn timeout w)
unfolding ns_recv_call
recv_call_acts w clock client conn timeout = receive_on_acts w clock client (own_connection client conn w) (λ short. own_inbox client conn w short) timeout

shuts_acts : (room : Room) (w v : World) → Leaves w v → (address : ℕ) → Acts room w (shuts address v)
shuts_acts room w v leaves address =
    let more : Leaves v (shuts address v).world = record {
      clients = refl;
      device = refl;
      inboxes = λ short. inboxes_changed closed_connection (λ connection some. All-nil Short) v.driver.connections address short;
    } in
    gives_well room w (shuts address v).world (leaves_both w v (shuts address v).world leaves more) reply.Done (omega arith) (omega arith) (omega arith)

close_status_acts : (room : Room) (w : World) (address : ℕ) (status : ConnectionStatus) → Acts room w (close_by_status address status w)
close_status_acts room w address connection_status.Asked = refuses_well room w w (leaves_none w) errno.NotReady
close_status_acts room w address (connection_status.Established remote size) =
    send_acts room w (leave_frame address remote) (shuts address) (λ v leaves. shuts_acts room w v leaves address)
close_status_acts room w address (connection_status.Denied status) = refuses_well room w w (leaves_none w) errno.ChannelClosed
close_status_acts room w address connection_status.Shut = refuses_well room w w (leaves_none w) errno.ChannelClosed

close_call_acts : (room : Room) (w : World) (client conn : ℕ) → Acts room w (ns_close_call client conn w)
unfolding ns_close_call
close_call_acts room w client conn =
    elim (own_connection client conn w) as (λ o. Acts room w (close_on o w)) [
      | None ↦ refuses_well room w w (leaves_none w) errno.BadHandle
      | Some connection ↦ close_status_acts room w connection.address connection.status
    ]

-- the bytes of guest memory are nothing to clients and inboxes
memory_acts : (room : Room) (w : World) (memory : List ℕ) → Acts room w (ns_gives reply.Done (record w { memory = memory }))
memory_acts room w memory = gives_well room w (record w { memory = memory }) (record { clients = refl; device = refl; inboxes = λ short. short }) reply.Done (omega arith) (omega arith) (omega arith)

poke_acts : (room : Room) (w : World) (addr : ℕ) (bytes : List ℕ) → Acts room w (ns_poke_call addr bytes w)
unfolding ns_poke_call
poke_acts room w addr bytes =
    acts_if room w (nat_lt memory_size (addr + length bytes)) (ns_refuses errno.InvalidArgs w) (ns_gives reply.Done (record w { memory = written_at addr bytes w.memory }))
    (refuses_well room w w (leaves_none w) errno.InvalidArgs) (memory_acts room w (written_at addr bytes w.memory))

kick_acts : (room : Room) (w : World) (queue head : ℕ) → Acts room w (ns_kick_call queue head w)
unfolding ns_kick_call
kick_acts room w queue head =
    let memory : List ℕ = published w.memory (ring queue w.driver.size) head in
    acts_if room w (nat_lt 1 queue || nat_lt greatest_head head) (ns_refuses errno.InvalidArgs w) (ns_gives reply.Done (record w { memory = memory }))
    (refuses_well room w w (leaves_none w) errno.InvalidArgs) (memory_acts room w memory)

call_acts : (w : World) (clock client : ℕ) (asked : Call) → ActsIf (room_of_call asked) w (ns_act clock client asked w)
unfolding ns_act
call_acts w clock client (call.NsConnect path) = acts_after no_room w (drained w) _ (leaves_drained w) (connect_acts no_room (drained w) client path)
call_acts w clock client (call.NsSend conn bytes) = acts_after no_room w (drained w) _ (leaves_drained w) (send_call_acts no_room (drained w) client conn bytes)
call_acts w clock client (call.NsRecv conn timeout) = acts_after full_room w (drained w) _ (leaves_drained w) (recv_call_acts (drained w) clock client conn timeout)
call_acts w clock client (call.NsClose conn) = acts_after no_room w (drained w) _ (leaves_drained w) (close_call_acts no_room (drained w) client conn)
call_acts w clock client (call.NsPoke addr bytes) = poke_acts no_room w addr bytes
call_acts w clock client (call.NsKick queue head) = kick_acts no_room w queue head
call_acts w clock client call.Finish =
    gives_well no_room w (with_client client_ended client w) (leaves_client w client_ended client) reply.Done (omega arith) (omega arith) (omega arith)
-- the others are calls of threads
call_acts w clock client other = tt

pub begin_acts : (s : State) (client start : ℕ) (asked : Call) → ActsIf (room_of_call asked) s.world (client_begin s client start asked)
unfolding client_begin
begin_acts s client start asked =
    let room : Room = room_of_call asked in
    let doing : (a : ClientActivity) → ActsIf room s.world (client_call_as s client start asked a) =
    λ a. elim a as (λ v. ActsIf room s.world (client_call_as s client start asked v)) [
      | activity.Running running ↦ elim (running == start) as (λ b. ActsIf room s.world (cond b (ns_act s.core.clock client asked s.world) None)) [
        | true ↦ call_acts s.world s.core.clock client asked
        | false ↦ tt
      ]
      | activity.Waiting waiting wait ↦ tt
      | activity.Ended ended ↦ tt
    ] in
    elim (slice_get s.world.clients client) as (λ o. ActsIf room s.world (client_call_of s client start asked o)) [ None ↦ tt | Some found ↦ doing found.activity ]

-- Ends of waits.

by_answer_acts : (w : World) (clock : ℕ) (wait : ClientWait) (o : Option Acted) → ActsIf full_room w o → ActsIf full_room w (end_by_answer clock wait o w)
by_answer_acts w clock wait (Some acted) acts = acts
by_answer_acts w clock wait None acts =
    let due : Option Acted = cond (is_due clock wait.deadline) (Some (ns_refuses errno.TimedOut w)) None in
    let last : ActsIf full_room w due = elim (is_due clock wait.deadline) as (λ b. ActsIf full_room w (cond b (Some (ns_refuses errno.TimedOut w)) None)) [
      | true ↦ refuses_well full_room w w (leaves_none w) errno.TimedOut
      | false ↦ tt
    ] in
    elim wait.cancelled as (λ b. ActsIf full_room w (cond b (Some (ns_refuses errno.Cancelled w)) due)) [ true ↦ refuses_well full_room w w (leaves_none w) errno.Cancelled | false ↦ last ]

wait_ends : (w : World) (clock : ℕ) (wait : ClientWait) → ActsIf full_room w (end_of_ns_wait clock wait w)
unfolding end_of_ns_wait
wait_ends w clock wait = by_answer_acts w clock wait (answer_of_wait wait.on w) (wait_answer_acts w wait.on)

again_acts : (room : Room) (w : World) (client : ℕ) (o : Option Acted) → ActsIf room w o → ActsIf room w (option_map (runs_again client) o)
again_acts room w client None acts = tt
again_acts room w client (Some acted) acts = record {
  world = leaves_both w acted.world _ acts.world (leaves_client acted.world client_running client);
  small = acts.small;
  fits = acts.fits;
}

pub resume_of_acts : (s : State) (client start : ℕ) (o : Option ClientState) → ActsIf full_room s.world (client_resume_of s client start o)
resume_of_acts s client start None = tt
resume_of_acts s client start (Some found) =
    let ends : (wait : ClientWait) → ActsIf full_room s.world (option_map (runs_again client) (end_of_ns_wait s.core.clock wait (drained s.world))) =
    λ wait. after_if full_room s.world (drained s.world) _ (leaves_drained s.world)
    (again_acts full_room (drained s.world) client (end_of_ns_wait s.core.clock wait (drained s.world)) (wait_ends (drained s.world) s.core.clock wait)) in
    elim found.activity as (λ v. ActsIf full_room s.world (client_resume_as s client start v)) [
      | activity.Waiting waiting wait ↦
          elim (waiting == start) as (λ b. ActsIf full_room s.world (cond b (option_map (runs_again client) (end_of_ns_wait s.core.clock wait (drained s.world))) None)) [ true ↦ ends wait | false ↦ tt ]
      | activity.Running running ↦ tt
      | activity.Ended ended ↦ tt
    ]

pub resume_acts : (s : State) (client start : ℕ) → ActsIf full_room s.world (client_resume s client start)
unfolding client_resume
resume_acts s client start = resume_of_acts s client start (slice_get s.world.clients client)
