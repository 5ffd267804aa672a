-- What the calls of clients send, and that nothing else of what is on its way changes.
use Rattle.std.proofs.Common.{◌≡◌, ℕ, ◌%◌, ◌<◌, ◌≤◌, Bool, true, false, not, cond, ltb, List, [], ◌∷◌, ◌++◌, Option, Some, None, length, min, refl, sym, ap, subst, ◌∙◌, arith}
use Rattle.std.proofs.lemmas.Bool.{ltb-false}
use Rattle.std.proofs.lemmas.List.{append-nil, map_push}
use Rattle.virtqueue.specs.Layout.{available_idx}
use Rattle.kernel_values.specs.Words.{is_path}
use Rattle.kernel_values.specs.declared.call.Call.{Call}
use Rattle.kernel_values.specs.declared.call.Call.TheVariants as call
use Rattle.kernel_values.specs.declared.call.Timeout.{Timeout}
use Rattle.kernel_values.specs.declared.errno.Errno.{Errno}
use Rattle.kernel_values.specs.declared.errno.Errno.TheVariants as errno
use Rattle.kernel_values.specs.declared.reply.Reply.{Reply}
use Rattle.kernel_values.specs.declared.reply.Reply.TheVariants as reply
use Rattle.kernel_values.specs.declared.world.ClientState.{ClientState}
use Rattle.kernel_values.specs.declared.world.ClientWait.{ClientWait}
use Rattle.kernel_values.specs.declared.world.ClientWaitOn.{ClientWaitOn}
use Rattle.kernel_values.specs.declared.world.ClientWaitOn.TheVariants as wait_on
use Rattle.kernel_values.specs.declared.world.Connection.{Connection}
use Rattle.kernel_values.specs.declared.world.ConnectionStatus.{ConnectionStatus}
use Rattle.kernel_values.specs.declared.world.ConnectionStatus.TheVariants as connection_status
use Rattle.kernel_values.specs.declared.world.World.{World}
use Rattle.kernel_types.specs.Carried.{one_if}
use Rattle.kernel_values.specs.Calls.{is_honest_call, drains}
use Rattle.kernel_types.specs.Clients.{Acted, ns_gives, ns_refuses, ns_waits, with_client, send_by, send_frame, sent_in, next_address, asks, ns_connect_call, own_connection, send_limit, counts, send_established, send_by_status, send_on, ns_send_call, connect_answer_of, connect_answer, is_closed, receive_from, receive_answer, answer_of_wait, receive_or_wait, receive_on, ns_recv_call, shuts, close_by_status, close_on, ns_close_call, ns_act, end_by_answer, end_of_ns_wait, inbox_changed, is_asked, client_ended}
use Rattle.kernel_types.specs.Drains.{with_driver, drained, connection_of}
use Rattle.kernel_types.specs.GuestMemory.{buffer_count, buffer_size, with_frame}
use Rattle.kernel_types.specs.Errors.{error_of}
use Rattle.kernel_types.specs.Sending.{frame, request_frame, leave_frame}
use Rattle.kernel_types.specs.Waits.{deadline_of, is_zero_timeout, is_due}
use Rattle.carry_laws.proofs.Carrying.{Carrying, drained_carries}
use Rattle.carry_laws.proofs.DriverWrites.{Framed, framed}
use Rattle.carry_laws.proofs.Incoming.{incoming_kept}
use Rattle.carry_laws.proofs.Lengths.{frame_long, request_short, leave_short}
use Rattle.carry_laws.proofs.Outgoing.{Flight, Outgoing, sends}
use Rattle.carry_laws.proofs.Rings.{IsRingSize, SameQueue}

-- what a call or the end of a wait came to: its frame is on its way too
pub record Acts (sent gave : List (List ℕ)) (acted : Acted) : Type 0 where
  pub carries : Carrying acted.world (sent ++ one_if acted.frame) gave

quiet : (sent gave : List (List ℕ)) (acted : Acted) → acted.frame ≡ None → Carrying acted.world sent gave → Acts sent gave acted
quiet sent gave acted none c =
    let same : sent ≡ sent ++ one_if acted.frame = sym (append-nil sent) ∙ ap (λ f. sent ++ one_if f) (sym none) in
    record { carries = subst (λ fs. Carrying acted.world fs gave) same c }

pub connected : (sent gave : List (List ℕ)) (w : World) (connections : List Connection) → Carrying w sent gave → Carrying (with_driver (record w.driver { connections = connections }) w) sent gave
connected sent gave w connections c = record {
  out = c.out;
  back = c.back;
  ready = c.ready;
  sized = c.sized;
  unbroken = c.unbroken;
  going = c.going;
  coming = c.coming;
  sent_are = c.sent_are;
  gave_are = c.gave_are;
}

pub with_clients : (sent gave : List (List ℕ)) (w : World) (clients : List ClientState) → Carrying w sent gave → Carrying (record w { clients = clients }) sent gave
with_clients sent gave w clients c = record {
  out = c.out;
  back = c.back;
  ready = c.ready;
  sized = c.sized;
  unbroken = c.unbroken;
  going = c.going;
  coming = c.coming;
  sent_are = c.sent_are;
  gave_are = c.gave_are;
}

-- A frame is sent.

elsewhere : (size place : ℕ) (bytes before after : List ℕ) → IsRingSize size → place < 32 → length bytes ≤ buffer_size → Framed size place bytes before after → SameQueue 0 before after
elsewhere size place bytes before after is low short f =
    let bound : available_idx before 1 % size < size = omega (arith, is.low) in
    let top : size ≤ 256 = is.high in
    record {
      rings = λ at len from to. f.other at len (omega arith) (omega arith) (omega arith) (omega arith);
      buffers = λ at len from to. f.other at len (omega arith) (omega arith) (omega arith) (omega arith);
    }

sent_carries : (sent gave : List (List ℕ)) (w : World) (place : ℕ) (rest frame : List ℕ) → w.driver.free ≡ place ∷ rest → length frame ≤ buffer_size → Carrying w sent gave
    → Carrying (sent_in place rest frame w) (sent ++ frame ∷ []) gave
sent_carries sent gave w place rest frame free short c =
    let size : ℕ = w.driver.size in
    let after : List ℕ = with_frame size place frame w.memory in
    let flight : Flight = record { place = place; bytes = frame } in
    let going : Outgoing size w.memory w.device.from_normal w.driver.seen_from_normal (place ∷ rest) c.out =
    subst (λ fs. Outgoing size w.memory w.device.from_normal w.driver.seen_from_normal fs c.out) free c.going in
    let low : place < buffer_count size = going.lowest.0 in
    let f : Framed size place frame w.memory after = framed size place frame w.memory c.sized c.coming.ready_are.long (omega arith) short in
    record {
      out = c.out ++ flight ∷ [];
      back = c.back;
      ready = c.ready;
      sized = c.sized;
      unbroken = c.unbroken;
      going = sends size place frame w.memory w.device.from_normal w.driver.seen_from_normal rest c.out c.sized c.coming.ready_are.long short going;
      coming = incoming_kept size w.memory after w.device.to_normal w.driver.seen_to_normal c.ready c.back c.sized f.long
          (elsewhere size place frame w.memory after c.sized (omega arith) short f) c.coming;
      sent_are = map_push (λ (x : Flight). x.bytes) c.out flight ∙ ap (λ fs. fs ++ frame ∷ []) c.sent_are;
      gave_are = c.gave_are;
    }

send_by_fine : (sent gave : List (List ℕ)) (w : World) (frame : List ℕ) (after : World → Acted) → length frame ≤ buffer_size → Carrying w sent gave
    → ((v : World) (fs : List (List ℕ)) → Carrying v fs gave → Carrying (after v).world fs gave) → (free : List ℕ) → w.driver.free ≡ free → Acts sent gave (send_by free frame after w)
send_by_fine sent gave w frame after short c keeps [] is = quiet sent gave (ns_refuses errno.NotEnoughBuffer w) refl c
send_by_fine sent gave w frame after short c keeps (place ∷ rest) is =
    record { carries = keeps (sent_in place rest frame w) (sent ++ frame ∷ []) (sent_carries sent gave w place rest frame is short c) }

sends_fine : (sent gave : List (List ℕ)) (w : World) (frame : List ℕ) (after : World → Acted) → length frame ≤ buffer_size → Carrying w sent gave
    → ((v : World) (fs : List (List ℕ)) → Carrying v fs gave → Carrying (after v).world fs gave) → Acts sent gave (send_frame frame after w)
unfolding send_frame
sends_fine sent gave w frame after short c keeps = send_by_fine sent gave w frame after short c keeps w.driver.free refl

-- The calls, in a drained world.

acts_if : (sent gave : List (List ℕ)) (b : Bool) (x y : Acted) → (b ≡ true → Acts sent gave x) → (b ≡ false → Acts sent gave y) → Acts sent gave (cond b x y)
acts_if sent gave true x y one other = one refl
acts_if sent gave false x y one other = other refl

refused : (sent gave : List (List ℕ)) (e : Errno) (w : World) → Carrying w sent gave → Acts sent gave (ns_refuses e w)
refused sent gave e w c = quiet sent gave (ns_refuses e w) refl c

gives : (sent gave : List (List ℕ)) (r : Reply) (w : World) → Carrying w sent gave → Acts sent gave (ns_gives r w)
gives sent gave r w c = quiet sent gave (ns_gives r w) refl c

waits : (sent gave : List (List ℕ)) (client : ℕ) (on : ClientWaitOn) (deadline : Option ℕ) (w : World) → Carrying w sent gave → Carrying (ns_waits client on deadline w).world sent gave
waits sent gave client on deadline w c = with_clients sent gave w _ c

connects : (sent gave : List (List ℕ)) (client : ℕ) (path : List ℕ) (w : World) → Carrying w sent gave → Acts sent gave (ns_connect_call client path w)
unfolding ns_connect_call
connects sent gave client path w c =
    acts_if sent gave (not (is_path path)) (ns_refuses errno.InvalidArgs w) (send_frame (request_frame (next_address w) path) (asks client (next_address w)) w)
    (λ bad. refused sent gave errno.InvalidArgs w c)
    (λ good. sends_fine sent gave w (request_frame (next_address w) path) (asks client (next_address w)) (request_short (next_address w) path (not_false (is_path path) good)) c
    (λ v fs d. with_clients fs gave _ _ (connected fs gave v _ d)))
  where
    not_false : (b : Bool) → not b ≡ false → b ≡ true
    not_false true e = refl
    not_false false e = absurd (cc)

established : (sent gave : List (List ℕ)) (address remote size : ℕ) (bytes : List ℕ) (w : World) → Carrying w sent gave → Acts sent gave (send_established address remote size bytes w)
established sent gave address remote size bytes w c =
    acts_if sent gave (ltb (min size send_limit) (length bytes)) (ns_refuses errno.TooBig w) (send_frame (frame address remote bytes) (counts (length bytes)) w)
    (λ long. refused sent gave errno.TooBig w c)
    (λ short. let few : length bytes ≤ min size send_limit = ltb-false (min size send_limit) (length bytes) short in
    sends_fine sent gave w (frame address remote bytes) (counts (length bytes)) (omega (arith, frame_long address remote bytes)) c (λ v fs d. d))

send_by_status_fine : (sent gave : List (List ℕ)) (address : ℕ) (status : ConnectionStatus) (bytes : List ℕ) (w : World) → Carrying w sent gave
    → Acts sent gave (send_by_status address status bytes w)
send_by_status_fine sent gave address connection_status.Asked bytes w c = refused sent gave errno.NotReady w c
send_by_status_fine sent gave address (connection_status.Established remote size) bytes w c = established sent gave address remote size bytes w c
send_by_status_fine sent gave address (connection_status.Denied status) bytes w c = refused sent gave errno.ChannelClosed w c
send_by_status_fine sent gave address connection_status.Shut bytes w c = refused sent gave errno.ChannelClosed w c

send_on_fine : (sent gave : List (List ℕ)) (o : Option Connection) (bytes : List ℕ) (w : World) → Carrying w sent gave → Acts sent gave (send_on o bytes w)
send_on_fine sent gave None bytes w c = refused sent gave errno.BadHandle w c
send_on_fine sent gave (Some connection) bytes w c = send_by_status_fine sent gave connection.address connection.status bytes w c

sends_call : (sent gave : List (List ℕ)) (client conn : ℕ) (bytes : List ℕ) (w : World) → Carrying w sent gave → Acts sent gave (ns_send_call client conn bytes w)
unfolding ns_send_call
sends_call sent gave client conn bytes w c = send_on_fine sent gave (own_connection client conn w) bytes w c

close_by_status_fine : (sent gave : List (List ℕ)) (address : ℕ) (status : ConnectionStatus) (w : World) → Carrying w sent gave → Acts sent gave (close_by_status address status w)
close_by_status_fine sent gave address connection_status.Asked w c = refused sent gave errno.NotReady w c
close_by_status_fine sent gave address (connection_status.Established remote size) w c =
    sends_fine sent gave w (leave_frame address remote) (shuts address) (leave_short address remote) c (λ v fs d. connected fs gave v _ d)
close_by_status_fine sent gave address (connection_status.Denied status) w c = refused sent gave errno.ChannelClosed w c
close_by_status_fine sent gave address connection_status.Shut w c = refused sent gave errno.ChannelClosed w c

close_on_fine : (sent gave : List (List ℕ)) (o : Option Connection) (w : World) → Carrying w sent gave → Acts sent gave (close_on o w)
close_on_fine sent gave None w c = refused sent gave errno.BadHandle w c
close_on_fine sent gave (Some connection) w c = close_by_status_fine sent gave connection.address connection.status w c

closes_call : (sent gave : List (List ℕ)) (client conn : ℕ) (w : World) → Carrying w sent gave → Acts sent gave (ns_close_call client conn w)
unfolding ns_close_call
closes_call sent gave client conn w c = close_on_fine sent gave (own_connection client conn w) w c

-- an answer that may be there
abbrev pub IfActs : List (List ℕ) → List (List ℕ) → Option Acted → Type 0
IfActs sent gave None = Unit {0}
IfActs sent gave (Some acted) = Acts sent gave acted

if_acts : (sent gave : List (List ℕ)) (b : Bool) (x y : Option Acted) → IfActs sent gave x → IfActs sent gave y → IfActs sent gave (cond b x y)
if_acts sent gave true x y one other = one
if_acts sent gave false x y one other = other

receives_from : (sent gave : List (List ℕ)) (connection : Connection) (inbox : List (List ℕ)) (w : World) → Carrying w sent gave → IfActs sent gave (receive_from connection inbox w)
receives_from sent gave connection (bytes ∷ rest) w c =
    quiet sent gave (ns_gives (reply.Bytes bytes []) (inbox_changed rest connection.address w)) refl (connected sent gave w _ c)
receives_from sent gave connection [] w c = if_acts sent gave (is_closed connection.status) (Some (ns_refuses errno.ChannelClosed w)) None (refused sent gave errno.ChannelClosed w c) tt

received_or_waits : (sent gave : List (List ℕ)) (clock client conn : ℕ) (timeout : Timeout) (o : Option Acted) (w : World) → Carrying w sent gave → IfActs sent gave o
    → Acts sent gave (receive_or_wait clock client conn timeout o w)
received_or_waits sent gave clock client conn timeout (Some acted) w c is = is
received_or_waits sent gave clock client conn timeout None w c is =
    acts_if sent gave (is_zero_timeout timeout) (ns_refuses errno.TimedOut w) (ns_waits client (wait_on.Receive conn) (deadline_of clock timeout) w)
    (λ zero. refused sent gave errno.TimedOut w c)
    (λ more. quiet sent gave (ns_waits client (wait_on.Receive conn) (deadline_of clock timeout) w) refl (waits sent gave client (wait_on.Receive conn) (deadline_of clock timeout) w c))

receives_on : (sent gave : List (List ℕ)) (clock client : ℕ) (o : Option Connection) (timeout : Timeout) (w : World) → Carrying w sent gave → Acts sent gave (receive_on clock client o timeout w)
receives_on sent gave clock client None timeout w c = refused sent gave errno.BadHandle w c
receives_on sent gave clock client (Some connection) timeout w c =
    acts_if sent gave (is_asked connection.status) (ns_refuses errno.NotReady w)
    (receive_or_wait clock client connection.address timeout (receive_from connection connection.inbox w) w)
    (λ asked. refused sent gave errno.NotReady w c)
    (λ there. received_or_waits sent gave clock client connection.address timeout (receive_from connection connection.inbox w) w c (receives_from sent gave connection connection.inbox w c))

receives_call : (sent gave : List (List ℕ)) (clock client conn : ℕ) (timeout : Timeout) (w : World) → Carrying w sent gave → Acts sent gave (ns_recv_call clock client conn timeout w)
unfolding ns_recv_call
receives_call sent gave clock client conn timeout w c = receives_on sent gave clock client (own_connection client conn w) timeout w c

-- A call, which may drain both queues first.

abbrev pub ActsAs : List (List ℕ) → List (List ℕ) → Bool → Option Acted → Type 0
ActsAs sent gave drained None = Unit {0}
ActsAs sent gave drained (Some acted) = Acts sent (cond drained [] gave) acted

pub call_acts : (sent gave : List (List ℕ)) (clock client : ℕ) (asked : Call) (w : World) → Carrying w sent gave → is_honest_call asked ≡ true
    → ActsAs sent gave (drains asked) (ns_act clock client asked w)
unfolding ns_act
call_acts sent gave clock client (call.NsConnect path) w c honest = connects sent [] client path (drained w) (drained_carries w sent gave c).1
call_acts sent gave clock client (call.NsSend conn bytes) w c honest = sends_call sent [] client conn bytes (drained w) (drained_carries w sent gave c).1
call_acts sent gave clock client (call.NsRecv conn timeout) w c honest = receives_call sent [] clock client conn timeout (drained w) (drained_carries w sent gave c).1
call_acts sent gave clock client (call.NsClose conn) w c honest = closes_call sent [] client conn (drained w) (drained_carries w sent gave c).1
call_acts sent gave clock client (call.NsPoke addr bytes) w c honest = absurd (cc)
call_acts sent gave clock client (call.NsKick queue head) w c honest = absurd (cc)
call_acts sent gave clock client call.Finish w c honest = quiet sent gave (ns_gives reply.Done (with_client client_ended client w)) refl (with_clients sent gave w _ c)
call_acts sent gave clock client other w c honest = tt

-- The end of a wait, in a drained world.

connect_answered : (sent gave : List (List ℕ)) (asked : Connection) (status : ConnectionStatus) (w : World) → Carrying w sent gave → IfActs sent gave (connect_answer_of asked status w)
connect_answered sent gave asked connection_status.Asked w c = tt
connect_answered sent gave asked (connection_status.Denied status) w c = refused sent gave (error_of status) w c
connect_answered sent gave asked (connection_status.Established remote size) w c = gives sent gave (reply.Conn asked.address) w c
connect_answered sent gave asked connection_status.Shut w c = gives sent gave (reply.Conn asked.address) w c

connect_ends : (sent gave : List (List ℕ)) (o : Option Connection) (w : World) → Carrying w sent gave → IfActs sent gave (connect_answer o w)
connect_ends sent gave None w c = tt
connect_ends sent gave (Some asked) w c = connect_answered sent gave asked asked.status w c

receive_ends : (sent gave : List (List ℕ)) (o : Option Connection) (w : World) → Carrying w sent gave → IfActs sent gave (receive_answer o w)
receive_ends sent gave None w c = tt
receive_ends sent gave (Some connection) w c = receives_from sent gave connection connection.inbox w c

wait_answered : (sent gave : List (List ℕ)) (on : ClientWaitOn) (w : World) → Carrying w sent gave → IfActs sent gave (answer_of_wait on w)
unfolding answer_of_wait
wait_answered sent gave (wait_on.Connect conn) w c = connect_ends sent gave (connection_of w.driver.connections conn) w c
wait_answered sent gave (wait_on.Receive conn) w c = receive_ends sent gave (connection_of w.driver.connections conn) w c

ended_by : (sent gave : List (List ℕ)) (clock : ℕ) (wait : ClientWait) (o : Option Acted) (w : World) → Carrying w sent gave → IfActs sent gave o
    → IfActs sent gave (end_by_answer clock wait o w)
ended_by sent gave clock wait (Some acted) w c is = is
ended_by sent gave clock wait None w c is =
    if_acts sent gave wait.cancelled (Some (ns_refuses errno.Cancelled w)) (cond (is_due clock wait.deadline) (Some (ns_refuses errno.TimedOut w)) None)
    (refused sent gave errno.Cancelled w c)
    (if_acts sent gave (is_due clock wait.deadline) (Some (ns_refuses errno.TimedOut w)) None (refused sent gave errno.TimedOut w c) tt)

pub wait_ends : (sent gave : List (List ℕ)) (clock : ℕ) (wait : ClientWait) (w : World) → Carrying w sent gave → IfActs sent gave (end_of_ns_wait clock wait w)
unfolding end_of_ns_wait
wait_ends sent gave clock wait w c = ended_by sent gave clock wait (answer_of_wait wait.on w) w c (wait_answered sent gave wait.on w c)
