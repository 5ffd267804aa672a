-- A call on a drained world, and the answer of a wait there, by those on the driver alone: no memory is read, one frame at most is
-- written, and the driver stays sound.
use Rattle.std.proofs.Common.{◌≡◌, ℕ, ◌<◌, ◌==◌, Bool, true, false, cond, List, [], ◌∷◌, length, min, ltb, not, Option, Some, None, refl, sym, ◌∙◌, ap}
use Rattle.std.specs.List.{find}
use Rattle.std.specs.Option.{unwrap_or}
use Rattle.std.proofs.lemmas.Bool.{eqb-true}
use Rattle.std.proofs.lemmas.List.Elements.{All-tail}
use Rattle.std.proofs.lemmas.List.Folds.{find_at}
use Rattle.std.proofs.lemmas.Option.{same_Some, none-some}
use Rattle.kernel_values.specs.Words.{is_path}
use Rattle.kernel_values.specs.declared.call.Call.{Call}
use Rattle.kernel_values.specs.declared.call.Call.TheVariants as call
use Rattle.kernel_values.specs.declared.call.Timeout.{Timeout}
use Rattle.kernel_values.specs.declared.errno.Errno.TheVariants as errno
use Rattle.kernel_values.specs.declared.reply.Answer.{Answer}
use Rattle.kernel_types.specs.Waits.{is_zero_timeout, deadline_of}
use Rattle.kernel_values.specs.declared.world.ClientState.{ClientState}
use Rattle.kernel_values.specs.declared.world.ClientWaitOn.{ClientWaitOn}
use Rattle.kernel_values.specs.declared.world.ClientWaitOn.TheVariants as wait_on
use Rattle.kernel_values.specs.declared.world.Connection.{Connection}
use Rattle.kernel_values.specs.declared.world.ConnectionStatus.TheVariants as connection_status
use Rattle.kernel_values.specs.declared.world.Device.{Device}
use Rattle.kernel_values.specs.declared.world.World.{World}
use Rattle.kernel_types.specs.Clients.{Acted, ns_refuses, ns_waits, send_by, send_frame, next_address, asks, counts, shuts, send_limit, send_on, send_by_status, own_connection, owned_by, close_on, close_by_status, receive_on, receive_or_wait, receive_from, is_asked, is_closed, connect_answer, connect_answer_of, receive_answer, ns_connect_call, ns_send_call, ns_recv_call, ns_close_call, answer_of_wait}
use Rattle.kernel_types.specs.Drains.{connection_of}
use Rattle.kernel_types.specs.Sending.{request_frame, leave_frame, frame}
use Rattle.ns_driver.specs.Value.{IsSound}
use Rattle.ns_driver.specs.Acts.{still_waits}
use Rattle.ns_driver.specs.Plans.{alone, memory_after}
use Rattle.ns_driver.specs.Worlds.{clients_after}

-- the world that is left, by what is left of the driver alone
abbrev pub placed : List ClientState → World → Acted → Acted
placed clients w b = record b { world = record w { memory = memory_after w.driver.size w.driver.free b.frame w.memory; driver = b.world.driver; clients = clients } }

pub record Good (clients : Answer → List ClientState) (w : World) (a b : Acted) : Type 0 where
  pub same : a ≡ placed (clients b.answer) w b
  pub sound : IsSound w.driver → IsSound b.world.driver

-- ---- a frame goes out

abbrev world_with : List ℕ → Device → ℕ → ℕ → ℕ → List ℕ → List Connection → List ClientState → World
world_with memory device size s0 s1 free connections clients =
    record { memory = memory; device = device; driver = record { size = size; seen_to_normal = s0; seen_from_normal = s1; free = free; connections = connections }; clients = clients }

fewer : (size s0 s1 place : ℕ) (rest : List ℕ) (before after : List Connection)
    → IsSound (record { size = size; seen_to_normal = s0; seen_from_normal = s1; free = place ∷ rest; connections = before })
    → IsSound (record { size = size; seen_to_normal = s0; seen_from_normal = s1; free = rest; connections = after })
fewer size s0 s1 place rest before after h = record { low = h.low; high = h.high; free = All-tail (λ p. p < min size 32) place rest h.free }

sent_counts : (clock client : ℕ) (call : Call) (memory : List ℕ) (device : Device) (size s0 s1 : ℕ) (free : List ℕ) (connections : List Connection) (clients : List ClientState) (frame : List ℕ) (count : ℕ)
    → let w = world_with memory device size s0 s1 free connections clients in
    Good (clients_after clock client call w) w (send_by free frame (counts count) w) (send_by free frame (counts count) (alone w.driver))
sent_counts clock client call memory device size s0 s1 [] connections clients frame count = record { same = refl; sound = λ h. h }
sent_counts clock client call memory device size s0 s1 (place ∷ rest) connections clients frame count = record { same = refl; sound = fewer size s0 s1 place rest connections _ }

sent_shuts : (clock client : ℕ) (call : Call) (memory : List ℕ) (device : Device) (size s0 s1 : ℕ) (free : List ℕ) (connections : List Connection) (clients : List ClientState) (frame : List ℕ) (address : ℕ)
    → let w = world_with memory device size s0 s1 free connections clients in
    Good (clients_after clock client call w) w (send_by free frame (shuts address) w) (send_by free frame (shuts address) (alone w.driver))
sent_shuts clock client call memory device size s0 s1 [] connections clients frame address = record { same = refl; sound = λ h. h }
sent_shuts clock client call memory device size s0 s1 (place ∷ rest) connections clients frame address = record { same = refl; sound = fewer size s0 s1 place rest connections _ }

sent_asks : (clock client : ℕ) (path : List ℕ) (memory : List ℕ) (device : Device) (size s0 s1 : ℕ) (free : List ℕ) (connections : List Connection) (clients : List ClientState) (frame : List ℕ)
    → let w = world_with memory device size s0 s1 free connections clients in
    Good (clients_after clock client (call.NsConnect path) w) w (send_by free frame (asks client (next_address w)) w) (send_by free frame (asks client (next_address w)) (alone w.driver))
sent_asks clock client path memory device size s0 s1 [] connections clients frame = record { same = refl; sound = λ h. h }
sent_asks clock client path memory device size s0 s1 (place ∷ rest) connections clients frame = record { same = refl; sound = fewer size s0 s1 place rest connections _ }

-- ---- the calls

pub connects : (clock client : ℕ) (path : List ℕ) (w : World)
    → Good (clients_after clock client (call.NsConnect path) w) w (ns_connect_call client path w) (ns_connect_call client path (alone w.driver))
unfolding ns_connect_call send_frame
connects clock client path w =
    let d = w.driver in
    elim (is_path path) as (λ b. Good (clients_after clock client (call.NsConnect path) w) w
    (cond (not b) (ns_refuses errno.InvalidArgs w) (send_by d.free (request_frame (next_address w) path) (asks client (next_address w)) w))
    (cond (not b) (ns_refuses errno.InvalidArgs (alone d)) (send_by d.free (request_frame (next_address w) path) (asks client (next_address w)) (alone d)))) [
      | true ↦ sent_asks clock client path w.memory w.device d.size d.seen_to_normal d.seen_from_normal d.free d.connections w.clients (request_frame (next_address w) path)
      | false ↦ record { same = refl; sound = λ h. h }
    ]

pub sends : (clock client conn : ℕ) (bytes : List ℕ) (w : World)
    → Good (clients_after clock client (call.NsSend conn bytes) w) w (ns_send_call client conn bytes w) (ns_send_call client conn bytes (alone w.driver))
unfolding ns_send_call send_frame
sends clock client conn bytes w =
    let d = w.driver in
    let C : Answer → List ClientState = clients_after clock client (call.NsSend conn bytes) w in
    elim (own_connection client conn w) as (λ o. Good C w (send_on o bytes w) (send_on o bytes (alone d))) [
      | None ↦ record { same = refl; sound = λ h. h }
      | Some c ↦ elim c.status as (λ s. Good C w (send_by_status c.address s bytes w) (send_by_status c.address s bytes (alone d))) [
        | connection_status.Asked ↦ record { same = refl; sound = λ h. h }
        | connection_status.Established remote size ↦
            elim (ltb (min size send_limit) (length bytes)) as (λ b. Good C w
            (cond b (ns_refuses errno.TooBig w) (send_by d.free (frame c.address remote bytes) (counts (length bytes)) w))
            (cond b (ns_refuses errno.TooBig (alone d)) (send_by d.free (frame c.address remote bytes) (counts (length bytes)) (alone d)))) [
              | true ↦ record { same = refl; sound = λ h. h }
              | false ↦ sent_counts clock client (call.NsSend conn bytes) w.memory w.device d.size d.seen_to_normal d.seen_from_normal d.free d.connections w.clients (frame c.address remote bytes) (length bytes)
            ]
        | connection_status.Denied status ↦ record { same = refl; sound = λ h. h }
        | connection_status.Shut ↦ record { same = refl; sound = λ h. h }
      ]
    ]

pub closes : (clock client conn : ℕ) (w : World)
    → Good (clients_after clock client (call.NsClose conn) w) w (ns_close_call client conn w) (ns_close_call client conn (alone w.driver))
unfolding ns_close_call send_frame
closes clock client conn w =
    let d = w.driver in
    let C : Answer → List ClientState = clients_after clock client (call.NsClose conn) w in
    elim (own_connection client conn w) as (λ o. Good C w (close_on o w) (close_on o (alone d))) [
      | None ↦ record { same = refl; sound = λ h. h }
      | Some c ↦ elim c.status as (λ s. Good C w (close_by_status c.address s w) (close_by_status c.address s (alone d))) [
        | connection_status.Asked ↦ record { same = refl; sound = λ h. h }
        | connection_status.Established remote size ↦
            sent_shuts clock client (call.NsClose conn) w.memory w.device d.size d.seen_to_normal d.seen_from_normal d.free d.connections w.clients (leave_frame c.address remote) c.address
        | connection_status.Denied status ↦ record { same = refl; sound = λ h. h }
        | connection_status.Shut ↦ record { same = refl; sound = λ h. h }
      ]
    ]

-- ---- receives

-- a connection that was found has the address that was looked for
found_address : (cs : List Connection) (a : ℕ) (c : Connection) → find (λ c. c.address == a) cs ≡ Some c → c.address ≡ a
found_address [] a c e = absurd (none-some c e)
found_address (x ∷ cs) a c e =
    let go : (b : Bool) → (x.address == a) ≡ b → cond b (Some x) (find (λ c. c.address == a) cs) ≡ Some c → c.address ≡ a =
    λ b. elim b as (λ v. (x.address == a) ≡ v → cond v (Some x) (find (λ c. c.address == a) cs) ≡ Some c → c.address ≡ a) [
      | true ↦ (λ hb h. sym (ap (λ (c : Connection). c.address) (same_Some x c h)) ∙ eqb-true x.address a hb)
      | false ↦ (λ hb h. found_address cs a c h)
    ] in
    go (x.address == a) refl e

address_is : (cs : List Connection) (a : ℕ) (c : Connection) → connection_of cs a ≡ Some c → c.address ≡ a
address_is cs a c e = found_address cs a c (find_at (λ c. c.address == a) cs ∙ e)

waits_on : (clock client conn : ℕ) (timeout : Timeout) (w : World) (address : ℕ) → address ≡ conn
    → Good (clients_after clock client (call.NsRecv conn timeout) w) w
    (ns_waits client (wait_on.Receive address) (deadline_of clock timeout) w) (ns_waits client (wait_on.Receive address) (deadline_of 0 timeout) (alone w.driver))
waits_on clock client conn timeout w address e = record {
  same = ap (λ a. ns_waits client (wait_on.Receive a) (deadline_of clock timeout) w) e;
  sound = λ h. h;
}

pub receives : (clock client conn : ℕ) (timeout : Timeout) (w : World)
    → Good (clients_after clock client (call.NsRecv conn timeout) w) w (ns_recv_call clock client conn timeout w) (ns_recv_call 0 client conn timeout (alone w.driver))
unfolding ns_recv_call
receives clock client conn timeout w =
    let d = w.driver in
    let C : Answer → List ClientState = clients_after clock client (call.NsRecv conn timeout) w in
    let after_receive : (c : Connection) → c.address ≡ conn → Good C w
    (receive_or_wait clock client c.address timeout (receive_from c c.inbox w) w)
    (receive_or_wait 0 client c.address timeout (receive_from c c.inbox (alone d)) (alone d)) =
    λ c e. elim c.inbox as (λ i. Good C w (receive_or_wait clock client c.address timeout (receive_from c i w) w) (receive_or_wait 0 client c.address timeout (receive_from c i (alone d)) (alone d))) [
      | [] ↦ elim (is_closed c.status) as (λ b. Good C w
          (receive_or_wait clock client c.address timeout (cond b (Some (ns_refuses errno.ChannelClosed w)) None) w)
          (receive_or_wait 0 client c.address timeout (cond b (Some (ns_refuses errno.ChannelClosed (alone d))) None) (alone d))) [
            | true ↦ record { same = refl; sound = λ h. h }
            | false ↦ elim (is_zero_timeout timeout) as (λ z. Good C w
                (cond z (ns_refuses errno.TimedOut w) (ns_waits client (wait_on.Receive c.address) (deadline_of clock timeout) w))
                (cond z (ns_refuses errno.TimedOut (alone d)) (ns_waits client (wait_on.Receive c.address) (deadline_of 0 timeout) (alone d)))) [
                  | true ↦ record { same = refl; sound = λ h. h }
                  | false ↦ waits_on clock client conn timeout w c.address e
                ]
          ]
      | bytes ∷ rest ↦ record { same = refl; sound = λ h. record { low = h.low; high = h.high; free = h.free } }
    ] in
    let go : (o : Option Connection) → connection_of d.connections conn ≡ o → Good C w (receive_on clock client (owned_by client o) timeout w) (receive_on 0 client (owned_by client o) timeout (alone d)) =
    λ o. elim o as (λ o. connection_of d.connections conn ≡ o → Good C w (receive_on clock client (owned_by client o) timeout w) (receive_on 0 client (owned_by client o) timeout (alone d))) [
      | None ↦ (λ e. record { same = refl; sound = λ h. h })
      | Some c ↦ (λ e. elim (c.client == client) as (λ b. Good C w (receive_on clock client (cond b (Some c) None) timeout w) (receive_on 0 client (cond b (Some c) None) timeout (alone d))) [
        | true ↦ elim (is_asked c.status) as (λ b. Good C w
            (cond b (ns_refuses errno.NotReady w) (receive_or_wait clock client c.address timeout (receive_from c c.inbox w) w))
            (cond b (ns_refuses errno.NotReady (alone d)) (receive_or_wait 0 client c.address timeout (receive_from c c.inbox (alone d)) (alone d)))) [
              | true ↦ record { same = refl; sound = λ h. h }
              | false ↦ after_receive c (address_is d.connections conn c e)
            ]
        | false ↦ record { same = refl; sound = λ h. h }
      ])
    ] in
    go (connection_of d.connections conn) refl

-- ---- the ends of waits

abbrev stays : List ClientState → Answer → List ClientState
stays clients answer = clients

pub resumes : (on : ClientWaitOn) (w : World)
    → Good (stays w.clients) w (unwrap_or (answer_of_wait on w) (still_waits w)) (unwrap_or (answer_of_wait on (alone w.driver)) (still_waits (alone w.driver)))
unfolding answer_of_wait
resumes (wait_on.Connect conn) w =
    let d = w.driver in
    elim (connection_of d.connections conn) as (λ o. Good (stays w.clients) w (unwrap_or (connect_answer o w) (still_waits w)) (unwrap_or (connect_answer o (alone d)) (still_waits (alone d)))) [
      | None ↦ record { same = refl; sound = λ h. h }
      | Some c ↦ elim c.status as (λ s. Good (stays w.clients) w (unwrap_or (connect_answer_of c s w) (still_waits w)) (unwrap_or (connect_answer_of c s (alone d)) (still_waits (alone d)))) [
        | connection_status.Asked ↦ record { same = refl; sound = λ h. h }
        | connection_status.Established remote size ↦ record { same = refl; sound = λ h. h }
        | connection_status.Denied status ↦ record { same = refl; sound = λ h. h }
        | connection_status.Shut ↦ record { same = refl; sound = λ h. h }
      ]
    ]
resumes (wait_on.Receive conn) w =
    let d = w.driver in
    elim (connection_of d.connections conn) as (λ o. Good (stays w.clients) w (unwrap_or (receive_answer o w) (still_waits w)) (unwrap_or (receive_answer o (alone d)) (still_waits (alone d)))) [
      | None ↦ record { same = refl; sound = λ h. h }
      | Some c ↦ elim c.inbox as (λ i. Good (stays w.clients) w (unwrap_or (receive_from c i w) (still_waits w)) (unwrap_or (receive_from c i (alone d)) (still_waits (alone d)))) [
        | [] ↦ elim (is_closed c.status) as (λ b. Good (stays w.clients) w
            (unwrap_or (cond b (Some (ns_refuses errno.ChannelClosed w)) None) (still_waits w))
            (unwrap_or (cond b (Some (ns_refuses errno.ChannelClosed (alone d))) None) (still_waits (alone d)))) [
              | true ↦ record { same = refl; sound = λ h. h }
              | false ↦ record { same = refl; sound = λ h. h }
            ]
        | bytes ∷ rest ↦ record { same = refl; sound = λ h. record { low = h.low; high = h.high; free = h.free } }
      ]
    ]
