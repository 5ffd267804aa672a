-- A client's call adds one connection at most, and only `nconnect` adds any.
use Rattle.std.proofs.Common.{◌≡◌, ◌≤◌, ℕ, ◌+◌, ◌||◌, Bool, true, false, cond, not, List, [], ◌∷◌, length, min, Option, Some, None, refl, subst, arith, length-append}
use Rattle.std.specs.Prelude.{nat_lt, slice_get}
use Rattle.std.specs.Option.{option_map, unwrap_or}
use Rattle.std.proofs.Math.ListN.{length-set}
use Rattle.kernel_values.specs.Words.{is_path}
use Rattle.kernel_values.specs.declared.call.Call.{Call}
use Rattle.kernel_values.specs.declared.call.Call.TheVariants as call
use Rattle.kernel_values.specs.declared.call.Timeout.{Timeout}
use Rattle.kernel_values.specs.declared.errno.Errno.{Errno}
use Rattle.kernel_values.specs.declared.errno.Errno.TheVariants as errno
use Rattle.kernel_values.specs.declared.reply.Reply.TheVariants as reply
use Rattle.kernel_values.specs.declared.world.ClientWaitOn.{ClientWaitOn}
use Rattle.kernel_values.specs.declared.world.ClientWaitOn.TheVariants as wait_on
use Rattle.kernel_values.specs.declared.world.Connection.{Connection}
use Rattle.kernel_values.specs.declared.world.ConnectionStatus.{ConnectionStatus}
use Rattle.kernel_values.specs.declared.world.ConnectionStatus.TheVariants as connection_status
use Rattle.kernel_values.specs.declared.world.Driver.{Driver}
use Rattle.kernel_values.specs.declared.world.World.{World}
use Rattle.virtqueue.specs.Layout.{published, written_at}
use Rattle.kernel_types.specs.Clients.{Acted, answer_of_wait, asked_connection, asks, close_by_status, close_on, closed_connection, connect_answer, connect_answer_of, counts, greatest_head, is_asked, is_closed, next_address, ns_act, ns_close_call, ns_connect_call, ns_gives, ns_kick_call, ns_poke_call, ns_recv_call, ns_refuses, ns_send_call, ns_waits, own_connection, receive_answer, receive_from, receive_on, receive_or_wait, send_by, send_by_status, send_established, send_frame, send_limit, send_on, sent_in, shuts, with_inbox}
use Rattle.kernel_values.specs.Calls.{is_client_call}
use Rattle.kernel_types.specs.Drains.{connection_changed, connection_of, connection_place, drained}
use Rattle.kernel_types.specs.GuestMemory.{memory_size, ring}
use Rattle.kernel_types.specs.Objects.{set_if}
use Rattle.kernel_types.specs.Sending.{frame, leave_frame, request_frame}
use Rattle.kernel_types.specs.Waits.{deadline_of, is_zero_timeout}
use Rattle.ns_driver.proofs.Carrying.{drained_long}
use Rattle.ns_driver.specs.Acts.{HasRoom, still_waits}
use Rattle.ns_bridge.specs.Acts.{HasRoomFor, requests}

-- at most so many connections more
pub record Adds (more : ℕ) (w : World) (a : Acted) : Type 0 where
  pub few : length a.world.driver.connections ≤ length w.driver.connections + more

abbrev AddsIf : ℕ → World → Option Acted → Type 0
AddsIf more w None = Unit {0}
AddsIf more w (Some a) = Adds more w a

none_added : (w : World) (a : Acted) → length a.world.driver.connections ≡ length w.driver.connections → Adds 0 w a
none_added w a same = record { few = omega (arith, same) }

adds_if : (more : ℕ) (w : World) (b : Bool) (one other : Acted) → Adds more w one → Adds more w other → Adds more w (cond b one other)
adds_if more w b one other f g = elim b as (λ v. Adds more w (cond v one other)) [ true ↦ f | false ↦ g ]

changed_long : (f : Connection → Connection) (cs : List Connection) (t : ℕ) → length (connection_changed f cs t) ≡ length cs
changed_long f cs t =
    elim (option_map f (slice_get cs (connection_place cs t))) as (λ o. length (set_if cs (connection_place cs t) o) ≡ length cs) [ None ↦ refl | Some c ↦ length-set cs (connection_place cs t) c ]

-- a frame that goes out adds none of itself
sends : (more : ℕ) (w : World) (free bytes : List ℕ) (after : World → Acted) → Adds more w (ns_refuses errno.NotEnoughBuffer w)
    → ((place : ℕ) (rest : List ℕ) → Adds more w (after (sent_in place rest bytes w))) → Adds more w (send_by free bytes after w)
sends more w [] bytes after refused done = refused
sends more w (place ∷ rest) bytes after refused done = record { few = (done place rest).few }

refuses_any : (more : ℕ) (w : World) (errno : Errno) → Adds more w (ns_refuses errno w)
refuses_any more w errno = record { few = omega arith }

connects : (client : ℕ) (path : List ℕ) (w : World) → Adds 1 w (ns_connect_call client path w)
unfolding ns_connect_call send_frame
connects client path w =
    let bytes : List ℕ = request_frame (next_address w) path in
    let after : World → Acted = asks client (next_address w) in
    adds_if 1 w (not (is_path path)) (ns_refuses errno.InvalidArgs w) (send_by w.driver.free bytes after w) (refuses_any 1 w errno.InvalidArgs)
    (sends 1 w w.driver.free bytes after (refuses_any 1 w errno.NotEnoughBuffer) (λ place rest. record { few = omega (arith, length-append w.driver.connections (asked_connection (next_address w) client ∷ [])) }))

established : (w : World) (address remote size : ℕ) (bytes : List ℕ) → Adds 0 w (send_established address remote size bytes w)
unfolding send_frame
established w address remote size bytes =
    let after : World → Acted = counts (length bytes) in
    adds_if 0 w (nat_lt (min size send_limit) (length bytes)) (ns_refuses errno.TooBig w) (send_by w.driver.free (frame address remote bytes) after w) (refuses_any 0 w errno.TooBig)
    (sends 0 w w.driver.free (frame address remote bytes) after (refuses_any 0 w errno.NotEnoughBuffer) (λ place rest. record { few = omega arith }))

send_status : (w : World) (address : ℕ) (status : ConnectionStatus) (bytes : List ℕ) → Adds 0 w (send_by_status address status bytes w)
send_status w address (connection_status.Established remote size) bytes = established w address remote size bytes
send_status w address connection_status.Asked bytes = refuses_any 0 w errno.NotReady
send_status w address (connection_status.Denied status) bytes = refuses_any 0 w errno.ChannelClosed
send_status w address connection_status.Shut bytes = refuses_any 0 w errno.ChannelClosed

send_calls : (client conn : ℕ) (bytes : List ℕ) (w : World) → Adds 0 w (ns_send_call client conn bytes w)
unfolding ns_send_call
send_calls client conn bytes w =
    elim (own_connection client conn w) as (λ o. Adds 0 w (send_on o bytes w)) [
      | None ↦ refuses_any 0 w errno.BadHandle
      | Some connection ↦ send_status w connection.address connection.status bytes
    ]

shut : (w : World) (address remote : ℕ) → Adds 0 w (send_frame (leave_frame address remote) (shuts address) w)
unfolding send_frame
shut w address remote =
    sends 0 w w.driver.free (leave_frame address remote) (shuts address) (refuses_any 0 w errno.NotEnoughBuffer)
    (λ place rest. record { few = omega (arith, changed_long closed_connection w.driver.connections address) })

close_status : (w : World) (address : ℕ) (status : ConnectionStatus) → Adds 0 w (close_by_status address status w)
close_status w address (connection_status.Established remote size) = shut w address remote
close_status w address connection_status.Asked = refuses_any 0 w errno.NotReady
close_status w address (connection_status.Denied status) = refuses_any 0 w errno.ChannelClosed
close_status w address connection_status.Shut = refuses_any 0 w errno.ChannelClosed

close_calls : (client conn : ℕ) (w : World) → Adds 0 w (ns_close_call client conn w)
unfolding ns_close_call
close_calls client conn w =
    elim (own_connection client conn w) as (λ o. Adds 0 w (close_on o w)) [
      | None ↦ refuses_any 0 w errno.BadHandle
      | Some connection ↦ close_status w connection.address connection.status
    ]

receives_from : (w : World) (connection : Connection) (inbox : List (List ℕ)) → AddsIf 0 w (receive_from connection inbox w)
receives_from w connection (bytes ∷ rest) = record { few = omega (arith, changed_long (with_inbox rest) w.driver.connections connection.address) }
receives_from w connection [] =
    elim (is_closed connection.status) as (λ b. AddsIf 0 w (cond b (Some (ns_refuses errno.ChannelClosed w)) None)) [ true ↦ refuses_any 0 w errno.ChannelClosed | false ↦ tt ]

or_waits : (w : World) (clock client conn : ℕ) (timeout : Timeout) (o : Option Acted) → AddsIf 0 w o → Adds 0 w (receive_or_wait clock client conn timeout o w)
or_waits w clock client conn timeout (Some acted) adds = adds
or_waits w clock client conn timeout None adds =
    adds_if 0 w (is_zero_timeout timeout) (ns_refuses errno.TimedOut w) (ns_waits client (wait_on.Receive conn) (deadline_of clock timeout) w)
    (refuses_any 0 w errno.TimedOut) (record { few = omega arith })

recv_calls : (clock client conn : ℕ) (timeout : Timeout) (w : World) → Adds 0 w (ns_recv_call clock client conn timeout w)
unfolding ns_recv_call
recv_calls clock client conn timeout w =
    elim (own_connection client conn w) as (λ o. Adds 0 w (receive_on clock client o timeout w)) [
      | None ↦ refuses_any 0 w errno.BadHandle
      | Some connection ↦
          let got : Option Acted = receive_from connection connection.inbox w in
          adds_if 0 w (is_asked connection.status) (ns_refuses errno.NotReady w) (receive_or_wait clock client connection.address timeout got w)
          (refuses_any 0 w errno.NotReady) (or_waits w clock client connection.address timeout got (receives_from w connection connection.inbox))
    ]

connect_status : (w : World) (asked : Connection) (status : ConnectionStatus) → Adds 0 w (unwrap_or (connect_answer_of asked status w) (still_waits w))
connect_status w asked connection_status.Asked = record { few = omega arith }
connect_status w asked (connection_status.Denied status) = record { few = omega arith }
connect_status w asked (connection_status.Established remote size) = record { few = omega arith }
connect_status w asked connection_status.Shut = record { few = omega arith }

connect_answers : (w : World) (o : Option Connection) → Adds 0 w (unwrap_or (connect_answer o w) (still_waits w))
connect_answers w None = record { few = omega arith }
connect_answers w (Some asked) = connect_status w asked asked.status

or_still : (w : World) (o : Option Acted) → AddsIf 0 w o → Adds 0 w (unwrap_or o (still_waits w))
or_still w None adds = record { few = omega arith }
or_still w (Some acted) adds = adds

receive_answers : (w : World) (o : Option Connection) → Adds 0 w (unwrap_or (receive_answer o w) (still_waits w))
receive_answers w None = record { few = omega arith }
receive_answers w (Some connection) = or_still w (receive_from connection connection.inbox w) (receives_from w connection connection.inbox)

answers : (on : ClientWaitOn) (w : World) → Adds 0 w (unwrap_or (answer_of_wait on w) (still_waits w))
unfolding answer_of_wait
answers (wait_on.Connect conn) w = connect_answers w (connection_of w.driver.connections conn)
answers (wait_on.Receive conn) w = receive_answers w (connection_of w.driver.connections conn)

-- writes past the driver

written : (w : World) (memory : List ℕ) (refused : Bool) → Adds 0 w (cond refused (ns_refuses errno.InvalidArgs w) (ns_gives reply.Done (record w { memory = memory })))
written w memory refused =
    adds_if 0 w refused (ns_refuses errno.InvalidArgs w) (ns_gives reply.Done (record w { memory = memory })) (refuses_any 0 w errno.InvalidArgs) (record { few = omega arith })

poke_calls : (addr : ℕ) (bytes : List ℕ) (w : World) → Adds 0 w (ns_poke_call addr bytes w)
unfolding ns_poke_call
poke_calls addr bytes w = written w (written_at addr bytes w.memory) (nat_lt memory_size (addr + length bytes))

kick_calls : (queue head : ℕ) (w : World) → Adds 0 w (ns_kick_call queue head w)
unfolding ns_kick_call
kick_calls queue head w = written w (published w.memory (ring queue w.driver.size) head) (nat_lt 1 queue || nat_lt greatest_head head)

-- after a drain, which adds none

from_drained : (more : ℕ) (w : World) (a : Acted) → Adds more (drained w) a → Adds more w a
from_drained more w a adds = record { few = omega (arith, adds.few, drained_long w) }

pub wait_adds : (on : ClientWaitOn) (w : World) → Adds 0 w (unwrap_or (answer_of_wait on (drained w)) (still_waits (drained w)))
wait_adds on w = from_drained 0 w _ (answers on (drained w))

pub call_adds : (clock client : ℕ) (asked : Call) (w : World) (a : Acted) → is_client_call asked ≡ true → ns_act clock client asked w ≡ Some a → Adds (requests asked) w a
unfolding ns_act
call_adds clock client (call.NsConnect path) w a d is = subst (λ (x : Acted). Adds 1 w x) (let same : ns_connect_call client path (drained w) ≡ a = cc in same) (from_drained 1 w _ (connects client path (drained w)))
call_adds clock client (call.NsSend conn bytes) w a d is = subst (λ (x : Acted). Adds 0 w x) (let same : ns_send_call client conn bytes (drained w) ≡ a = cc in same) (from_drained 0 w _ (send_calls client conn bytes (drained w)))
call_adds clock client (call.NsRecv conn timeout) w a d is = subst (λ (x : Acted). Adds 0 w x) (let same : ns_recv_call clock client conn timeout (drained w) ≡ a = cc in same) (from_drained 0 w _ (recv_calls clock client conn timeout (drained w)))
call_adds clock client (call.NsClose conn) w a d is = subst (λ (x : Acted). Adds 0 w x) (let same : ns_close_call client conn (drained w) ≡ a = cc in same) (from_drained 0 w _ (close_calls client conn (drained w)))
call_adds clock client (call.NsPoke addr bytes) w a d is = subst (λ (x : Acted). Adds 0 w x) (let same : ns_poke_call addr bytes w ≡ a = cc in same) (poke_calls addr bytes w)
call_adds clock client (call.NsKick queue head) w a d is = subst (λ (x : Acted). Adds 0 w x) (let same : ns_kick_call queue head w ≡ a = cc in same) (kick_calls queue head w)
call_adds clock client other w a d is = let no : false ≡ true = d in absurd (cc)

-- an address of 32 bits is left
pub room_is : (d : Driver) (count : ℕ) (asked : Call) → length d.connections ≤ count → HasRoomFor count asked → HasRoom d asked
room_is d count (call.NsConnect path) few room = omega arith
room_is d count other few room = tt
