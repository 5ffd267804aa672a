-- A call of a client gives or refuses, and never with CANCELLED, or its wait begins; and after it the clients are as before, but for the one
-- that calls, which may end, or wait and is not cancelled then.
use Rattle.std.proofs.Common.{◌≡◌, ℕ, Bool, true, false, cond, List, [], ◌∷◌, ◌+◌, ◌||◌, Option, Some, None, length, min, not, refl, ap, ◌∙◌, subst}
use Rattle.std.specs.Prelude.{nat_lt}
use Rattle.kernel_values.specs.Words.{is_path}
use Rattle.kernel_values.specs.declared.call.Call.{Call}
use Rattle.kernel_values.specs.declared.call.Call.TheVariants as call
use Rattle.kernel_values.specs.declared.call.Timeout.{Timeout}
use Rattle.kernel_values.specs.declared.errno.Errno.TheVariants as errno
use Rattle.kernel_values.specs.declared.reply.Answer.TheVariants as answer
use Rattle.kernel_values.specs.declared.world.ClientWait.{ClientWait}
use Rattle.kernel_values.specs.declared.world.ClientWaitOn.TheVariants as wait_on
use Rattle.kernel_values.specs.declared.world.Connection.{Connection}
use Rattle.kernel_values.specs.declared.world.ConnectionStatus.{ConnectionStatus}
use Rattle.kernel_values.specs.declared.world.ConnectionStatus.TheVariants as connection_status
use Rattle.kernel_values.specs.declared.world.World.{World}
use Rattle.kernel_types.specs.Clients.{Acted, asks, client_changed, client_ended, client_waiting, close_by_status, close_on, counts, greatest_head, is_asked, is_closed, new_wait, next_address, ns_act, ns_close_call, ns_connect_call, ns_kick_call, ns_poke_call, ns_recv_call, ns_refuses, ns_send_call, own_connection, receive_from, receive_on, receive_or_wait, send_by, send_by_status, send_frame, send_limit, send_on, sent_in, shuts, with_sent}
use Rattle.kernel_types.specs.Drains.{drained, from_normal_drained, to_normal_drained}
use Rattle.kernel_types.specs.GuestMemory.{memory_size}
use Rattle.kernel_types.specs.Objects.{map_at}
use Rattle.kernel_types.specs.Sending.{frame, leave_frame, request_frame}
use Rattle.kernel_types.specs.Waits.{deadline_of, is_zero_timeout}
use Rattle.step_laws.proofs.Outcomes.{is_answered}

pub data Calls (k : ℕ) (w : World) (acted : Acted) : Type 0 where
  stays : acted.world.clients ≡ w.clients → is_answered false acted.answer ≡ true → Calls k w acted
  waits : (wait : ClientWait) → wait.cancelled ≡ false → acted.world.clients ≡ map_at (client_changed (client_waiting wait)) w.clients k → acted.answer ≡ answer.Waits → Calls k w acted
  over : acted.world.clients ≡ map_at (client_changed client_ended) w.clients k → is_answered false acted.answer ≡ true → Calls k w acted

from_same : (k : ℕ) (u w : World) (acted : Acted) → u.clients ≡ w.clients → Calls k u acted → Calls k w acted
from_same k u w acted same (stays is other) = stays (is ∙ same) other
from_same k u w acted same (waits wait unmarked is answer_is) = waits wait unmarked (is ∙ ap (λ clients. map_at (client_changed (client_waiting wait)) clients k) same) answer_is
from_same k u w acted same (over is other) = over (is ∙ ap (λ clients. map_at (client_changed client_ended) clients k) same) other

one_of : (k : ℕ) (w : World) (b : Bool) (one other : Acted) → Calls k w one → Calls k w other → Calls k w (cond b one other)
one_of k w true one other p q = p
one_of k w false one other p q = q

pub drained_same : (w : World) → (drained w).clients ≡ w.clients
unfolding to_normal_drained from_normal_drained
drained_same w = refl

-- a frame goes out, where there is a buffer for it

sent_calls : (k : ℕ) (w : World) (sent : List ℕ) (acted : Acted) → Calls k w acted → Calls k w (with_sent sent acted)
sent_calls k w sent acted (stays is other) = stays is other
sent_calls k w sent acted (waits wait unmarked is answer_is) = waits wait unmarked is answer_is
sent_calls k w sent acted (over is other) = over is other

send_by_calls : (k : ℕ) (w : World) (free sent : List ℕ) (after : World → Acted) → ((v : World) → v.clients ≡ w.clients → Calls k w (after v)) → Calls k w (send_by free sent after w)
send_by_calls k w [] sent after calls = stays refl refl
send_by_calls k w (place ∷ rest) sent after calls = sent_calls k w sent (after (sent_in place rest sent w)) (calls (sent_in place rest sent w) refl)

send_calls : (k : ℕ) (w : World) (sent : List ℕ) (after : World → Acted) → ((v : World) → v.clients ≡ w.clients → Calls k w (after v)) → Calls k w (send_frame sent after w)
unfolding send_frame
send_calls k w sent after calls = send_by_calls k w w.driver.free sent after calls

connect_calls : (k : ℕ) (w : World) (path : List ℕ) → Calls k w (ns_connect_call k path w)
unfolding ns_connect_call
connect_calls k w path =
    let asked : ClientWait = new_wait (wait_on.Connect (next_address w)) None in
    one_of k w (not (is_path path)) _ _ (stays refl refl) (send_calls k w (request_frame (next_address w) path) (asks k (next_address w))
    (λ v same. waits asked refl (ap (λ clients. map_at (client_changed (client_waiting asked)) clients k) same) refl))

send_status_calls : (k : ℕ) (w : World) (address : ℕ) (status : ConnectionStatus) (bytes : List ℕ) → Calls k w (send_by_status address status bytes w)
send_status_calls k w address connection_status.Asked bytes = stays refl refl
send_status_calls k w address (connection_status.Established remote size) bytes =
    one_of k w (nat_lt (min size send_limit) (length bytes)) _ _ (stays refl refl) (send_calls k w (frame address remote bytes) (counts (length bytes)) (λ v same. stays same refl))
send_status_calls k w address (connection_status.Denied status) bytes = stays refl refl
send_status_calls k w address connection_status.Shut bytes = stays refl refl

send_on_calls : (k : ℕ) (w : World) (connection : Option Connection) (bytes : List ℕ) → Calls k w (send_on connection bytes w)
send_on_calls k w None bytes = stays refl refl
send_on_calls k w (Some connection) bytes = send_status_calls k w connection.address connection.status bytes

send_call_calls : (k : ℕ) (w : World) (conn : ℕ) (bytes : List ℕ) → Calls k w (ns_send_call k conn bytes w)
unfolding ns_send_call
send_call_calls k w conn bytes = send_on_calls k w (own_connection k conn w) bytes

abbrev CallsIf : ℕ → World → Option Acted → Type 0
CallsIf k w None = Unit {0}
CallsIf k w (Some acted) = Calls k w acted

closed_calls : (k : ℕ) (w : World) (b : Bool) → CallsIf k w (cond b (Some (ns_refuses errno.ChannelClosed w)) None)
closed_calls k w true = stays refl refl
closed_calls k w false = tt

receive_calls : (k : ℕ) (w : World) (connection : Connection) (inbox : List (List ℕ)) → CallsIf k w (receive_from connection inbox w)
receive_calls k w connection (bytes ∷ rest) = stays refl refl
receive_calls k w connection [] = closed_calls k w (is_closed connection.status)

or_wait_calls : (k clock : ℕ) (w : World) (conn : ℕ) (timeout : Timeout) (got : Option Acted) → CallsIf k w got → Calls k w (receive_or_wait clock k conn timeout got w)
or_wait_calls k clock w conn timeout (Some acted) calls = calls
or_wait_calls k clock w conn timeout None calls =
    one_of k w (is_zero_timeout timeout) _ _ (stays refl refl) (waits (new_wait (wait_on.Receive conn) (deadline_of clock timeout)) refl refl refl)

receive_on_calls : (k clock : ℕ) (w : World) (connection : Option Connection) (timeout : Timeout) → Calls k w (receive_on clock k connection timeout w)
receive_on_calls k clock w None timeout = stays refl refl
receive_on_calls k clock w (Some connection) timeout =
    one_of k w (is_asked connection.status) _ _ (stays refl refl)
    (or_wait_calls k clock w connection.address timeout (receive_from connection connection.inbox w) (receive_calls k w connection connection.inbox))

receive_call_calls : (k clock : ℕ) (w : World) (conn : ℕ) (timeout : Timeout) → Calls k w (ns_recv_call clock k conn timeout w)
unfolding ns_recv_call
receive_call_calls k clock w conn timeout = receive_on_calls k clock w (own_connection k conn w) timeout

close_status_calls : (k : ℕ) (w : World) (address : ℕ) (status : ConnectionStatus) → Calls k w (close_by_status address status w)
close_status_calls k w address connection_status.Asked = stays refl refl
close_status_calls k w address (connection_status.Established remote size) = send_calls k w (leave_frame address remote) (shuts address) (λ v same. stays same refl)
close_status_calls k w address (connection_status.Denied status) = stays refl refl
close_status_calls k w address connection_status.Shut = stays refl refl

close_on_calls : (k : ℕ) (w : World) (connection : Option Connection) → Calls k w (close_on connection w)
close_on_calls k w None = stays refl refl
close_on_calls k w (Some connection) = close_status_calls k w connection.address connection.status

close_call_calls : (k : ℕ) (w : World) (conn : ℕ) → Calls k w (ns_close_call k conn w)
unfolding ns_close_call
close_call_calls k w conn = close_on_calls k w (own_connection k conn w)

poke_calls : (k : ℕ) (w : World) (addr : ℕ) (bytes : List ℕ) → Calls k w (ns_poke_call addr bytes w)
unfolding ns_poke_call
poke_calls k w addr bytes = one_of k w (nat_lt memory_size (addr + length bytes)) _ _ (stays refl refl) (stays refl refl)

kick_calls : (k : ℕ) (w : World) (queue head : ℕ) → Calls k w (ns_kick_call queue head w)
unfolding ns_kick_call
kick_calls k w queue head = one_of k w (nat_lt 1 queue || nat_lt greatest_head head) _ _ (stays refl refl) (stays refl refl)

act_calls_if : (k clock : ℕ) (w : World) (asked : Call) → CallsIf k w (ns_act clock k asked w)
unfolding ns_act
act_calls_if k clock w (call.NsConnect path) = from_same k (drained w) w _ (drained_same w) (connect_calls k (drained w) path)
act_calls_if k clock w (call.NsSend conn bytes) = from_same k (drained w) w _ (drained_same w) (send_call_calls k (drained w) conn bytes)
act_calls_if k clock w (call.NsRecv conn timeout) = from_same k (drained w) w _ (drained_same w) (receive_call_calls k clock (drained w) conn timeout)
act_calls_if k clock w (call.NsClose conn) = from_same k (drained w) w _ (drained_same w) (close_call_calls k (drained w) conn)
act_calls_if k clock w (call.NsPoke addr bytes) = poke_calls k w addr bytes
act_calls_if k clock w (call.NsKick queue head) = kick_calls k w queue head
act_calls_if k clock w call.Finish = over refl refl
act_calls_if k clock w _ = tt

pub act_calls : (k clock : ℕ) (w : World) (asked : Call) (acted : Acted) → ns_act clock k asked w ≡ Some acted → Calls k w acted
act_calls k clock w asked acted is = subst (λ (o : Option Acted). CallsIf k w o) is (act_calls_if k clock w asked)
