-- The laws of calls and waits in any world, from those on the driver alone.
use Rattle.std.proofs.Common.{◌≡◌, ℕ, ◌+◌, ◌||◌, Bool, true, false, cond, List, [], ◌∷◌, length, Option, Some, None, refl, sym, ◌∙◌, ap}
use Rattle.std.specs.Prelude.{nat_lt}
use Rattle.std.specs.Option.{unwrap_or, is_some}
use Rattle.kernel_values.specs.declared.call.Call.{Call}
use Rattle.kernel_values.specs.declared.call.Call.TheVariants as call
use Rattle.kernel_values.specs.declared.errno.Errno.TheVariants as errno
use Rattle.kernel_values.specs.declared.reply.Reply.TheVariants as reply
use Rattle.virtqueue.specs.Layout.{written_at, published}
use Rattle.kernel_types.specs.GuestMemory.{memory_size, ring}
use Rattle.kernel_types.specs.Waits.{is_due}
use Rattle.kernel_values.specs.declared.world.ClientWait.{ClientWait}
use Rattle.kernel_values.specs.declared.world.ClientWaitOn.{ClientWaitOn}
use Rattle.kernel_values.specs.declared.world.ClientWaitOn.TheVariants as wait_on
use Rattle.kernel_values.specs.declared.world.ConnectionStatus.TheVariants as connection_status
use Rattle.kernel_values.specs.declared.world.Driver.{Driver}
use Rattle.kernel_values.specs.declared.world.World.{World}
use Rattle.kernel_types.specs.Clients.{Acted, ns_gives, ns_refuses, ns_act, ns_poke_call, ns_kick_call, greatest_head, ns_connect_call, ns_send_call, ns_recv_call, ns_close_call, first_address, is_closed, receive_from, connect_answer, connect_answer_of, receive_answer, answer_of_wait, end_by_answer, end_of_ns_wait}
use Rattle.kernel_types.specs.Drains.{connection_of, drained, to_normal_drained, from_normal_drained, drained_frames}
use Rattle.ns_driver.specs.Acts.{bare, still_waits, awaited, wait_if}
use Rattle.ns_driver.specs.Plans.{alone}
use Rattle.ns_driver.specs.Worlds.{in_world, deadline_after, clients_with, clients_after, begun_in, CallsAnywhere, ended, resumed_in, WaitsEndAnywhere, WaitsMoveAnywhere}
use Rattle.ns_driver.proofs.Anywhere.{placed, connects, sends, receives, closes, resumes}
use Rattle.ns_driver.proofs.Carrying.{drained_long}

-- a drain of any world, by that of its memory and driver
abbrev with_both : World → World → World
with_both from w = record w { memory = from.memory; driver = from.driver }

drained_in : (w : World) → drained w ≡ with_both (drained (bare w.memory w.driver)) w
unfolding to_normal_drained from_normal_drained drained_frames
drained_in w = refl

drained_bare : (w : World) → drained (bare w.memory w.driver) ≡ with_both (drained (bare w.memory w.driver)) (bare w.memory w.driver)
unfolding to_normal_drained from_normal_drained drained_frames
drained_bare w = refl

awaited_same : (d e : Driver) (call : Call) → length d.connections ≡ length e.connections → awaited d call ≡ awaited e call
awaited_same d e (call.NsConnect path) same = ap (λ n. let o : Option ClientWaitOn = Some (wait_on.Connect (first_address + n)) in o) same
awaited_same d e other same = refl

-- what is left of both worlds after a drain stands in both
carried : (clock client : ℕ) (call : Call) (w from : World) (a c b : Acted) → length from.driver.connections ≡ length w.driver.connections
    → a ≡ placed (clients_after clock client call (with_both from w) b.answer) (with_both from w) b
    → c ≡ placed (clients_after 0 client call (with_both from (bare w.memory w.driver)) b.answer) (with_both from (bare w.memory w.driver)) b
    → a ≡ begun_in clock client call w c
carried clock client call w from a c b long a-is c-is =
    a-is
    ∙ ap (λ on. placed (clients_with client (deadline_after clock call) (wait_if on b.answer) w.clients) (with_both from w) b) (awaited_same from.driver w.driver call long)
    ∙ ap (begun_in clock client call w) (sym c-is)

abbrev some_acted : Acted → Option Acted
some_acted a = Some a

-- what a write past the driver leaves, or its refusal
abbrev written_if : Bool → List ℕ → World → Acted
written_if refused memory w = cond refused (ns_refuses errno.InvalidArgs w) (ns_gives reply.Done (record w { memory = memory }))

written_anywhere : (clock client : ℕ) (call : Call) (w : World) (refused : Bool) (memory : List ℕ)
    → written_if refused memory w ≡ begun_in clock client call w (written_if refused memory (bare w.memory w.driver))
written_anywhere clock client call w true memory = refl
written_anywhere clock client call w false memory = refl

pokes : (clock client addr : ℕ) (bytes : List ℕ) (w : World)
    → ns_poke_call addr bytes w ≡ begun_in clock client (call.NsPoke addr bytes) w (ns_poke_call addr bytes (bare w.memory w.driver))
unfolding ns_poke_call
pokes clock client addr bytes w =
    written_anywhere clock client (call.NsPoke addr bytes) w (nat_lt memory_size (addr + length bytes)) (written_at addr bytes w.memory)

kicks : (clock client queue head : ℕ) (w : World)
    → ns_kick_call queue head w ≡ begun_in clock client (call.NsKick queue head) w (ns_kick_call queue head (bare w.memory w.driver))
unfolding ns_kick_call
kicks clock client queue head w =
    written_anywhere clock client (call.NsKick queue head) w (nat_lt 1 queue || nat_lt greatest_head head) (published w.memory (ring queue w.driver.size) head)

pub calls_anywhere : CallsAnywhere
unfolding ns_act
calls_anywhere clock client (call.NsConnect path) w h =
    let from = drained (bare w.memory w.driver) in
    ap (λ v. some_acted (ns_connect_call client path v)) (drained_in w)
    ∙ ap some_acted (carried clock client (call.NsConnect path) w from _ _ (ns_connect_call client path (alone from.driver)) (drained_long (bare w.memory w.driver))
    (connects clock client path (with_both from w)).same (connects 0 client path (with_both from (bare w.memory w.driver))).same)
    ∙ ap (λ v. some_acted (begun_in clock client (call.NsConnect path) w (ns_connect_call client path v))) (sym (drained_bare w))
calls_anywhere clock client (call.NsSend conn bytes) w h =
    let from = drained (bare w.memory w.driver) in
    ap (λ v. some_acted (ns_send_call client conn bytes v)) (drained_in w)
    ∙ ap some_acted (carried clock client (call.NsSend conn bytes) w from _ _ (ns_send_call client conn bytes (alone from.driver)) (drained_long (bare w.memory w.driver))
    (sends clock client conn bytes (with_both from w)).same (sends 0 client conn bytes (with_both from (bare w.memory w.driver))).same)
    ∙ ap (λ v. some_acted (begun_in clock client (call.NsSend conn bytes) w (ns_send_call client conn bytes v))) (sym (drained_bare w))
calls_anywhere clock client (call.NsRecv conn timeout) w h =
    let from = drained (bare w.memory w.driver) in
    ap (λ v. some_acted (ns_recv_call clock client conn timeout v)) (drained_in w)
    ∙ ap some_acted (carried clock client (call.NsRecv conn timeout) w from _ _ (ns_recv_call 0 client conn timeout (alone from.driver)) (drained_long (bare w.memory w.driver))
    (receives clock client conn timeout (with_both from w)).same (receives 0 client conn timeout (with_both from (bare w.memory w.driver))).same)
    ∙ ap (λ v. some_acted (begun_in clock client (call.NsRecv conn timeout) w (ns_recv_call 0 client conn timeout v))) (sym (drained_bare w))
calls_anywhere clock client (call.NsClose conn) w h =
    let from = drained (bare w.memory w.driver) in
    ap (λ v. some_acted (ns_close_call client conn v)) (drained_in w)
    ∙ ap some_acted (carried clock client (call.NsClose conn) w from _ _ (ns_close_call client conn (alone from.driver)) (drained_long (bare w.memory w.driver))
    (closes clock client conn (with_both from w)).same (closes 0 client conn (with_both from (bare w.memory w.driver))).same)
    ∙ ap (λ v. some_acted (begun_in clock client (call.NsClose conn) w (ns_close_call client conn v))) (sym (drained_bare w))
calls_anywhere clock client (call.NsPoke addr bytes) w h =
    ap some_acted (pokes clock client addr bytes w)
calls_anywhere clock client (call.NsKick queue head) w h =
    ap some_acted (kicks clock client queue head w)
calls_anywhere clock client other w h = let no : false ≡ true = h in absurd (cc)

-- ---- the ends of waits

abbrev resumed_on : ClientWaitOn → World → Acted
resumed_on on w = unwrap_or (answer_of_wait on w) (still_waits w)

abbrev ends : ℕ → ClientWait → Option Acted → World → Type 0
ends clock wait o w = end_by_answer clock wait o w ≡ ended clock wait (unwrap_or o (still_waits w)).answer (unwrap_or o (still_waits w))

ended_is : (clock : ℕ) (wait : ClientWait) (on : ClientWaitOn) (w : World) → ends clock wait (answer_of_wait on w) w
unfolding answer_of_wait
ended_is clock wait (wait_on.Connect conn) w =
    elim (connection_of w.driver.connections conn) as (λ o. ends clock wait (connect_answer o w) w) [
      | None ↦ refl
      | Some c ↦ elim c.status as (λ s. ends clock wait (connect_answer_of c s w) w) [
        | connection_status.Asked ↦ refl
        | connection_status.Established remote size ↦ refl
        | connection_status.Denied status ↦ refl
        | connection_status.Shut ↦ refl
      ]
    ]
ended_is clock wait (wait_on.Receive conn) w =
    elim (connection_of w.driver.connections conn) as (λ o. ends clock wait (receive_answer o w) w) [
      | None ↦ refl
      | Some c ↦ elim c.inbox as (λ i. ends clock wait (receive_from c i w) w) [
        | [] ↦ elim (is_closed c.status) as (λ b. ends clock wait (cond b (Some (ns_refuses errno.ChannelClosed w)) None) w) [ true ↦ refl | false ↦ refl ]
        | bytes ∷ rest ↦ refl
      ]
    ]

resumed_anywhere : (on : ClientWaitOn) (w : World) → resumed_on on (drained w) ≡ resumed_in on w
resumed_anywhere on w =
    let from = drained (bare w.memory w.driver) in
    ap (resumed_on on) (drained_in w)
    ∙ (resumes on (with_both from w)).same
    ∙ ap (in_world w.clients w) (sym (resumes on (with_both from (bare w.memory w.driver))).same)
    ∙ ap (λ v. in_world w.clients w (resumed_on on v)) (sym (drained_bare w))

pub waits_end_anywhere : WaitsEndAnywhere
unfolding end_of_ns_wait
waits_end_anywhere clock wait w =
    ended_is clock wait wait.on (drained w)
    ∙ ap (λ a. ended clock wait a.answer a) (resumed_anywhere wait.on w)

-- ---- which waits may move

same_looked : (on : ClientWaitOn) (w v : World) → w.driver ≡ v.driver → is_some (answer_of_wait on w) ≡ is_some (answer_of_wait on v)
unfolding answer_of_wait
same_looked (wait_on.Connect conn) w v same =
    (elim (connection_of w.driver.connections conn) as (λ o. is_some (connect_answer o w) ≡ is_some (connect_answer o v)) [
      | None ↦ refl
      | Some c ↦ elim c.status as (λ s. is_some (connect_answer_of c s w) ≡ is_some (connect_answer_of c s v)) [
        | connection_status.Asked ↦ refl
        | connection_status.Established remote size ↦ refl
        | connection_status.Denied status ↦ refl
        | connection_status.Shut ↦ refl
      ]
    ])
    ∙ ap (λ (d : Driver). is_some (connect_answer (connection_of d.connections conn) v)) same
same_looked (wait_on.Receive conn) w v same =
    (elim (connection_of w.driver.connections conn) as (λ o. is_some (receive_answer o w) ≡ is_some (receive_answer o v)) [
      | None ↦ refl
      | Some c ↦ elim c.inbox as (λ i. is_some (receive_from c i w) ≡ is_some (receive_from c i v)) [
        | [] ↦ elim (is_closed c.status) as (λ b. is_some (cond b (some_acted (ns_refuses errno.ChannelClosed w)) None) ≡ is_some (cond b (some_acted (ns_refuses errno.ChannelClosed v)) None)) [ true ↦ refl | false ↦ refl ]
        | bytes ∷ rest ↦ refl
      ]
    ])
    ∙ ap (λ (d : Driver). is_some (receive_answer (connection_of d.connections conn) v)) same

moves : (clock : ℕ) (wait : ClientWait) (o : Option Acted) (w : World) → is_some (end_by_answer clock wait o w) ≡ (is_some o || (wait.cancelled || is_due clock wait.deadline))
moves clock wait (Some a) w = refl
moves clock wait None w =
    elim wait.cancelled as (λ b. is_some (cond b (some_acted (ns_refuses errno.Cancelled w)) (cond (is_due clock wait.deadline) (some_acted (ns_refuses errno.TimedOut w)) None)) ≡ (b || is_due clock wait.deadline)) [
      | true ↦ refl
      | false ↦ elim (is_due clock wait.deadline) as (λ b. is_some (cond b (some_acted (ns_refuses errno.TimedOut w)) None) ≡ b) [ true ↦ refl | false ↦ refl ]
    ]

pub waits_move_anywhere : WaitsMoveAnywhere
unfolding end_of_ns_wait
waits_move_anywhere clock wait w =
    moves clock wait (answer_of_wait wait.on (drained w)) (drained w)
    ∙ ap (λ b. b || (wait.cancelled || is_due clock wait.deadline))
    (same_looked wait.on (drained w) (drained (bare w.memory w.driver)) (ap (λ (v : World). v.driver) (drained_in w)))
