-- What the calls of a client, and the ends of its waits, leave of what is so of every connection; and the frames that they send.
use Rattle.std.proofs.Common.{◌≡◌, ℕ, zero, suc, ◌+◌, ◌≤◌, Bool, true, false, cond, not, min, List, [], ◌∷◌, length, Option, Some, None, refl, ap, sym, subst, arith, length-append}
use Rattle.std.specs.Prelude.{◌==◌, nat_lt, slice_get}
use Rattle.kernel_values.specs.Words.{is_path}
use Rattle.kernel_values.specs.declared.call.Timeout.{Timeout}
use Rattle.kernel_values.specs.declared.errno.Errno.TheVariants as errno
use Rattle.kernel_values.specs.declared.world.ClientWait.{ClientWait}
use Rattle.kernel_values.specs.declared.world.ClientWaitOn.{ClientWaitOn}
use Rattle.kernel_values.specs.declared.world.ClientWaitOn.TheVariants as wait_on
use Rattle.kernel_values.specs.declared.world.Connection.{Connection}
use Rattle.kernel_values.specs.declared.world.ConnectionStatus.{ConnectionStatus}
use Rattle.kernel_values.specs.declared.world.ConnectionStatus.TheVariants as connection_status
use Rattle.kernel_values.specs.declared.world.World.{World}
use Rattle.kernel_types.specs.Clients.{Acted, answer_of_wait, asked_connection, asks, close_by_status, close_on, closed_connection, connect_answer, connect_answer_of, counts, end_by_answer, end_of_ns_wait, is_asked, is_closed, next_address, ns_close_call, ns_connect_call, ns_recv_call, ns_refuses, ns_send_call, own_connection, owned_by, receive_answer, receive_from, receive_on, receive_or_wait, send_by, send_by_status, send_frame, send_limit, send_on, sent_in, shuts, with_inbox}
use Rattle.kernel_types.specs.Drains.{connection_of, connection_place}
use Rattle.kernel_types.specs.Sending.{frame, leave_frame, request_frame}
use Rattle.kernel_types.specs.Waits.{is_due, is_zero_timeout}
use Rattle.carry_laws.proofs.Lists.{AllOf, of_append}
use Rattle.wait_laws.proofs.Frames.{length_map_at, of_map_at}

abbrev pub IfFrame : (List ℕ → Type 0) → Option (List ℕ) → Type 0
IfFrame Q None = Unit {0}
IfFrame Q (Some bytes) = Q bytes

-- every connection is fine, there is at most one more, and a frame that was sent is as frames are to be
pub record Keeps (P : Connection → Type 0) (Q : List ℕ → Type 0) (w : World) (acted : Acted) : Type 0 where
  pub fine : AllOf P acted.world.driver.connections
  pub few : length acted.world.driver.connections ≤ length w.driver.connections + 1
  pub frame_is : IfFrame Q acted.frame

-- In the world `w`, which the driver has drained: the connections that are added are fine too, and each frame has what frames are to have.
module _ (P : Connection → Type 0) (Q : List ℕ → Type 0) (w : World) (closed : (c : Connection) → P c → P (closed_connection c))
    (took : (inbox : List (List ℕ)) (c : Connection) → P c → P (with_inbox inbox c)) (asked : (client : ℕ) → P (asked_connection (next_address w) client))
    (sends : (c : Connection) → P c → (remote : ℕ) (bytes : List ℕ) → Q (frame c.address remote bytes)) (goes : (c : Connection) → P c → (remote : ℕ) → Q (leave_frame c.address remote))
    (requests : (path : List ℕ) → Q (request_frame (next_address w) path)) (all : AllOf P w.driver.connections) where
  abbrev KeepsIf : Option Acted → Type 0
  KeepsIf None = Unit {0}
  KeepsIf (Some acted) = Keeps P Q w acted

  keeps_if : (b : Bool) (one other : Acted) → Keeps P Q w one → Keeps P Q w other → Keeps P Q w (cond b one other)
  keeps_if true one other p q = p
  keeps_if false one other p q = q

  some_if : (b : Bool) (one other : Option Acted) → KeepsIf one → KeepsIf other → KeepsIf (cond b one other)
  some_if true one other p q = p
  some_if false one other p q = q

  -- the connections stay, and nothing is sent
  quiet : (acted : Acted) → acted.world.driver.connections ≡ w.driver.connections → acted.frame ≡ None → Keeps P Q w acted
  quiet acted same none = record {
    fine = subst (λ cs. AllOf P cs) (sym same) all;
    few = omega (arith, ap length same);
    frame_is = subst (λ o. IfFrame Q o) (sym none) tt;
  }

  -- a frame goes out, where there is a buffer for it

  record Bare (acted : Acted) : Type 0 where
    fine : AllOf P acted.world.driver.connections
    few : length acted.world.driver.connections ≤ length w.driver.connections + 1

  sent_by : (free bytes : List ℕ) → Q bytes → (after : World → Acted) → ((v : World) → v.driver.connections ≡ w.driver.connections → Bare (after v)) → Keeps P Q w (send_by free bytes after w)
  sent_by [] bytes is after bare = quiet (ns_refuses errno.NotEnoughBuffer w) refl refl
  sent_by (place ∷ rest) bytes is after bare =
      let b : Bare (after (sent_in place rest bytes w)) = bare (sent_in place rest bytes w) refl in
      record { fine = b.fine; few = b.few; frame_is = is }

  sent : (bytes : List ℕ) → Q bytes → (after : World → Acted) → ((v : World) → v.driver.connections ≡ w.driver.connections → Bare (after v)) → Keeps P Q w (send_frame bytes after w)
  unfolding send_frame
  sent bytes is after bare = sent_by w.driver.free bytes is after bare

  -- calls

  asks_bare : (client : ℕ) (v : World) → v.driver.connections ≡ w.driver.connections → Bare (asks client (next_address w) v)
  asks_bare client v same = record {
    fine = of_append P v.driver.connections (asked_connection (next_address w) client ∷ []) (subst (λ cs. AllOf P cs) (sym same) all) (asked client, tt);
    few = omega (arith, length-append v.driver.connections (asked_connection (next_address w) client ∷ []), ap length same);
  }

  pub connect_keeps : (client : ℕ) (path : List ℕ) → Keeps P Q w (ns_connect_call client path w)
  unfolding ns_connect_call
  connect_keeps client path =
      keeps_if (not (is_path path)) (ns_refuses errno.InvalidArgs w) _ (quiet _ refl refl)
      (sent (request_frame (next_address w) path) (requests path) (asks client (next_address w)) (λ v same. asks_bare client v same))

  abbrev IfP : Option Connection → Type 0
  IfP None = Unit {0}
  IfP (Some c) = P c

  at_place : (cs : List Connection) (place : ℕ) → AllOf P cs → IfP (slice_get cs place)
  at_place [] place some = tt
  at_place (c ∷ cs) zero some = some.0
  at_place (c ∷ cs) (suc place) some = at_place cs place some.1

  owned : (client : ℕ) (o : Option Connection) → IfP o → IfP (owned_by client o)
  owned client None one = tt
  owned client (Some c) one = elim (c.client == client) as (λ b. IfP (cond b (Some c) None)) [ true ↦ one | false ↦ tt ]

  own : (client conn : ℕ) → IfP (own_connection client conn w)
  own client conn = owned client (connection_of w.driver.connections conn) (at_place w.driver.connections (connection_place w.driver.connections conn) all)

  counts_bare : (count : ℕ) (v : World) → v.driver.connections ≡ w.driver.connections → Bare (counts count v)
  counts_bare count v same = record { fine = subst (λ cs. AllOf P cs) (sym same) all; few = omega (arith, ap length same) }

  send_status_keeps : (c : Connection) → P c → (status : ConnectionStatus) (bytes : List ℕ) → Keeps P Q w (send_by_status c.address status bytes w)
  send_status_keeps c one connection_status.Asked bytes = quiet _ refl refl
  send_status_keeps c one (connection_status.Established remote size) bytes =
      keeps_if (nat_lt (min size send_limit) (length bytes)) (ns_refuses errno.TooBig w) _ (quiet _ refl refl)
      (sent (frame c.address remote bytes) (sends c one remote bytes) (counts (length bytes)) (λ v same. counts_bare (length bytes) v same))
  send_status_keeps c one (connection_status.Denied status) bytes = quiet _ refl refl
  send_status_keeps c one connection_status.Shut bytes = quiet _ refl refl

  send_on_keeps : (o : Option Connection) → IfP o → (bytes : List ℕ) → Keeps P Q w (send_on o bytes w)
  send_on_keeps None one bytes = quiet _ refl refl
  send_on_keeps (Some c) one bytes = send_status_keeps c one c.status bytes

  pub send_keeps : (client conn : ℕ) (bytes : List ℕ) → Keeps P Q w (ns_send_call client conn bytes w)
  unfolding ns_send_call
  send_keeps client conn bytes = send_on_keeps (own_connection client conn w) (own client conn) bytes

  receive_keeps : (c : Connection) (inbox : List (List ℕ)) → KeepsIf (receive_from c inbox w)
  receive_keeps c (bytes ∷ rest) = record {
    fine = of_map_at P (with_inbox rest) (took rest) w.driver.connections (connection_place w.driver.connections c.address) all;
    few = omega (arith, length_map_at (with_inbox rest) w.driver.connections (connection_place w.driver.connections c.address));
    frame_is = tt;
  }
  receive_keeps c [] = some_if (is_closed c.status) (Some (ns_refuses errno.ChannelClosed w)) None (quiet _ refl refl) tt

  or_wait_keeps : (clock client conn : ℕ) (timeout : Timeout) (o : Option Acted) → KeepsIf o → Keeps P Q w (receive_or_wait clock client conn timeout o w)
  or_wait_keeps clock client conn timeout (Some acted) keeps = keeps
  or_wait_keeps clock client conn timeout None keeps = keeps_if (is_zero_timeout timeout) (ns_refuses errno.TimedOut w) _ (quiet _ refl refl) (quiet _ refl refl)

  receive_on_keeps : (clock client : ℕ) (o : Option Connection) (timeout : Timeout) → Keeps P Q w (receive_on clock client o timeout w)
  receive_on_keeps clock client None timeout = quiet _ refl refl
  receive_on_keeps clock client (Some c) timeout =
      keeps_if (is_asked c.status) (ns_refuses errno.NotReady w) _ (quiet _ refl refl)
      (or_wait_keeps clock client c.address timeout (receive_from c c.inbox w) (receive_keeps c c.inbox))

  pub recv_keeps : (clock client conn : ℕ) (timeout : Timeout) → Keeps P Q w (ns_recv_call clock client conn timeout w)
  unfolding ns_recv_call
  recv_keeps clock client conn timeout = receive_on_keeps clock client (own_connection client conn w) timeout

  shuts_bare : (address : ℕ) (v : World) → v.driver.connections ≡ w.driver.connections → Bare (shuts address v)
  shuts_bare address v same = record {
    fine = of_map_at P closed_connection closed v.driver.connections (connection_place v.driver.connections address) (subst (λ cs. AllOf P cs) (sym same) all);
    few = omega (arith, length_map_at closed_connection v.driver.connections (connection_place v.driver.connections address), ap length same);
  }

  close_status_keeps : (c : Connection) → P c → (status : ConnectionStatus) → Keeps P Q w (close_by_status c.address status w)
  close_status_keeps c one connection_status.Asked = quiet _ refl refl
  close_status_keeps c one (connection_status.Established remote size) =
      sent (leave_frame c.address remote) (goes c one remote) (shuts c.address) (λ v same. shuts_bare c.address v same)
  close_status_keeps c one (connection_status.Denied status) = quiet _ refl refl
  close_status_keeps c one connection_status.Shut = quiet _ refl refl

  close_on_keeps : (o : Option Connection) → IfP o → Keeps P Q w (close_on o w)
  close_on_keeps None one = quiet _ refl refl
  close_on_keeps (Some c) one = close_status_keeps c one c.status

  pub close_keeps : (client conn : ℕ) → Keeps P Q w (ns_close_call client conn w)
  unfolding ns_close_call
  close_keeps client conn = close_on_keeps (own_connection client conn w) (own client conn)

  -- the end of a wait

  connect_end : (c : Connection) (status : ConnectionStatus) → KeepsIf (connect_answer_of c status w)
  connect_end c connection_status.Asked = tt
  connect_end c (connection_status.Established remote size) = quiet _ refl refl
  connect_end c (connection_status.Denied status) = quiet _ refl refl
  connect_end c connection_status.Shut = quiet _ refl refl

  connect_answer_end : (o : Option Connection) → KeepsIf (connect_answer o w)
  connect_answer_end None = tt
  connect_answer_end (Some c) = connect_end c c.status

  receive_end : (o : Option Connection) → KeepsIf (receive_answer o w)
  receive_end None = tt
  receive_end (Some c) = receive_keeps c c.inbox

  answer_end : (on : ClientWaitOn) → KeepsIf (answer_of_wait on w)
  unfolding answer_of_wait
  answer_end (wait_on.Connect conn) = connect_answer_end (connection_of w.driver.connections conn)
  answer_end (wait_on.Receive conn) = receive_end (connection_of w.driver.connections conn)

  end_by : (clock : ℕ) (wait : ClientWait) (o : Option Acted) → KeepsIf o → KeepsIf (end_by_answer clock wait o w)
  end_by clock wait (Some acted) keeps = keeps
  end_by clock wait None keeps =
      some_if wait.cancelled (Some (ns_refuses errno.Cancelled w)) _ (quiet _ refl refl)
      (some_if (is_due clock wait.deadline) (Some (ns_refuses errno.TimedOut w)) None (quiet _ refl refl) tt)

  end_keeps : (clock : ℕ) (wait : ClientWait) → KeepsIf (end_of_ns_wait clock wait w)
  unfolding end_of_ns_wait
  end_keeps clock wait = end_by clock wait (answer_of_wait wait.on w) (answer_end wait.on)

  keeps_by : (o : Option Acted) (acted : Acted) → o ≡ Some acted → KeepsIf o → Keeps P Q w acted
  keeps_by o acted is keeps = subst (λ (x : Option Acted). KeepsIf x) is keeps

  pub wait_keeps : (clock : ℕ) (wait : ClientWait) (acted : Acted) → end_of_ns_wait clock wait w ≡ Some acted → Keeps P Q w acted
  wait_keeps clock wait acted is = keeps_by (end_of_ns_wait clock wait w) acted is (end_keeps clock wait)
