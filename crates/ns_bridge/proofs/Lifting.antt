-- What a client does in a whole state is what it does in the normal world: the core stays, and so does the device.
use Rattle.std.proofs.Common.{◌≡◌, ℕ, ◌+◌, ◌==◌, ◌||◌, Bool, true, false, cond, List, length, Option, Some, None, refl, sym, ◌∙◌, ap, arith, tests}
use Rattle.std.specs.Prelude.{slice_get}
use Rattle.std.specs.Option.{option_map, is_some}
use Rattle.kernel_values.specs.declared.call.Call.{Call}
use Rattle.kernel_values.specs.declared.call.Call.TheVariants as call
use Rattle.kernel_values.specs.declared.entry.Event.{Event}
use Rattle.kernel_values.specs.declared.entry.Event.TheVariants as event
use Rattle.kernel_values.specs.declared.reply.Answer.{Answer}
use Rattle.kernel_values.specs.declared.reply.Answer.TheVariants as answer
use Rattle.kernel_values.specs.declared.state.CoreState.{CoreState}
use Rattle.kernel_values.specs.declared.state.State.{State}
use Rattle.kernel_values.specs.declared.world.ClientActivity.{ClientActivity}
use Rattle.kernel_values.specs.declared.world.ClientActivity.TheVariants as activity
use Rattle.kernel_values.specs.declared.world.ClientState.{ClientState}
use Rattle.kernel_values.specs.declared.world.ClientWait.{ClientWait}
use Rattle.kernel_values.specs.declared.world.Driver.{Driver}
use Rattle.kernel_values.specs.declared.world.World.{World}
use Rattle.kernel_types.specs.Clients.{Acted, client_may_move, end_of_ns_wait, ns_act}
use Rattle.kernel_values.specs.declared.call.CallKind.{CallKind}
use Rattle.kernel_values.specs.declared.call.CallKind.TheVariants as kind
use Rattle.kernel_values.specs.Calls.{is_client_call, is_kind_in_client, kind_of}
use Rattle.kernel_types.specs.CoreStep.{core_begin, core_resume}
use Rattle.kernel_types.specs.Drains.{drained}
use Rattle.kernel_types.specs.Step.{beside_core, begin, client_begin, client_call_as, client_call_of, client_may_move_if, client_movable, client_number, client_resume, client_resume_as, client_resume_of, step, in_world as in_kernel_world, is_thread, resume, runs_again}
use Rattle.kernel_types.specs.Waits.{is_due}
use Rattle.ns_driver.specs.Acts.{DriverOutcome, acted, bare, begun, told}
use Rattle.ns_driver.specs.Worlds.{begun_in, ended, ended_if, resumed_by, resumed_in}
use Rattle.ns_driver.proofs.Locality.{calls_anywhere, waits_end_anywhere, waits_move_anywhere}
use Rattle.ns_bridge.specs.Acts.{activity_at, activity_moves, activity_moves_if, asked_of_driver, beside, call_told, called, called_as, called_by, called_of, client_acted, client_called, client_resumed, ended_answer, is_over, resumed_as, resumed_of, run_again, wait_ended, wait_moves, with_ended}
use Rattle.ns_bridge.specs.Parts.{Normal, normal_of}
use Rattle.ns_bridge.specs.Wholes.{IsOfClient}

-- Calls.

-- the driver makes what a client calls but `finish`
pub driver_makes : (clock client : ℕ) (asked : Call) (n : Normal) → is_client_call asked ≡ true → called clock client asked n ≡ asked_of_driver clock client asked n
unfolding called
driver_makes clock client asked n made =
    let P : CallKind → Type 0 = λ k. is_kind_in_client k ≡ true → called_by k clock client asked n ≡ asked_of_driver clock client asked n in
    let go : (k : CallKind) → P k = λ k. elim k as (λ v. P v) [
      | kind.Thread ↦ (λ no. absurd (cc))
      | kind.Finish ↦ (λ no. absurd (cc))
      | kind.Driver ↦ (λ is. refl)
      | kind.Direct ↦ (λ is. refl)
    ] in
    go (kind_of asked) made

driver_lifts : (c : CoreState) (clock client : ℕ) (asked : Call) (w : World) → is_client_call asked ≡ true
    → option_map (beside_core c) (ns_act clock client asked w) ≡ option_map (beside c w.device) (asked_of_driver clock client asked (normal_of w))
unfolding asked_of_driver
driver_lifts c clock client asked w d =
    let both : (o : Option Acted) → option_map (beside_core c) (option_map (begun_in clock client asked w) o)
    ≡ option_map (beside c w.device) (option_map (call_told clock client asked (normal_of w)) (option_map told o)) =
    λ o. elim o as (λ v. option_map (beside_core c) (option_map (begun_in clock client asked w) v)
    ≡ option_map (beside c w.device) (option_map (call_told clock client asked (normal_of w)) (option_map told v))) [ None ↦ refl | Some a ↦ refl ] in
    ap (option_map (beside_core c)) (calls_anywhere clock client asked w d) ∙ both (begun client asked (bare w.memory w.driver))

-- `finish`, and calls of threads
rest_lifts : (c : CoreState) (clock client : ℕ) (asked : Call) (w : World) → is_client_call asked ≡ false
    → option_map (beside_core c) (ns_act clock client asked w) ≡ option_map (beside c w.device) (called clock client asked (normal_of w))
unfolding called ns_act
rest_lifts c clock client (call.NsConnect path) w r = absurd (cc)
rest_lifts c clock client (call.NsSend conn bytes) w r = absurd (cc)
rest_lifts c clock client (call.NsRecv conn timeout) w r = absurd (cc)
rest_lifts c clock client (call.NsClose conn) w r = absurd (cc)
rest_lifts c clock client (call.NsPoke addr bytes) w r = absurd (cc)
rest_lifts c clock client (call.NsKick queue head) w r = absurd (cc)
rest_lifts c clock client other w r = refl

call_lifts : (c : CoreState) (clock client : ℕ) (asked : Call) (w : World)
    → option_map (beside_core c) (ns_act clock client asked w) ≡ option_map (beside c w.device) (called clock client asked (normal_of w))
call_lifts c clock client asked w =
    let P : Bool → Type 0 = λ b. is_client_call asked ≡ b
    → option_map (beside_core c) (ns_act clock client asked w) ≡ option_map (beside c w.device) (called clock client asked (normal_of w)) in
    let go : (b : Bool) → P b = λ b. elim b as (λ v. P v) [
      | true ↦ (λ made. driver_lifts c clock client asked w made ∙ ap (option_map (beside c w.device)) (sym (driver_makes clock client asked (normal_of w) made)))
      | false ↦ (λ rest. rest_lifts c clock client asked w rest)
    ] in
    go (is_client_call asked) refl

pub begin_lifts : (s : State) (client start : ℕ) (asked : Call)
    → option_map (beside_core s.core) (client_begin s client start asked) ≡ option_map (beside s.core s.world.device) (client_called s.core.clock client start asked (normal_of s.world))
unfolding client_begin client_called
begin_lifts s client start asked =
    let n : Normal = normal_of s.world in
    let doing : (a : ClientActivity) → option_map (beside_core s.core) (client_call_as s client start asked a) ≡ option_map (beside s.core s.world.device) (called_as s.core.clock client start asked n a) =
    λ a. elim a as (λ v. option_map (beside_core s.core) (client_call_as s client start asked v) ≡ option_map (beside s.core s.world.device) (called_as s.core.clock client start asked n v)) [
      | activity.Running running ↦ elim (running == start) as (λ b. option_map (beside_core s.core) (cond b (ns_act s.core.clock client asked s.world) None)
          ≡ option_map (beside s.core s.world.device) (cond b (called s.core.clock client asked n) None)) [
            | true ↦ call_lifts s.core s.core.clock client asked s.world
            | false ↦ refl
          ]
      | activity.Waiting waiting wait ↦ refl
      | activity.Ended ended ↦ refl
    ] in
    elim (slice_get s.world.clients client) as (λ o. option_map (beside_core s.core) (client_call_of s client start asked o)
    ≡ option_map (beside s.core s.world.device) (called_of s.core.clock client start asked n (option_map (λ (state : ClientState). state.activity) o))) [
      | None ↦ refl
      | Some found ↦ doing found.activity
    ]

-- Ends of waits.

-- what the driver leaves of the end of a wait, in a world
abbrev left_in : World → Answer → List ℕ → Driver → Option (List ℕ) → Acted
left_in w x memory driver frame = record { answer = x; world = record w { memory = memory; driver = driver }; frame = frame }

abbrev left_alone : Bool → Answer → List ℕ → Driver → DriverOutcome
left_alone cancelled x memory driver = record { answer = ended_answer cancelled x; memory = memory; driver = driver }

abbrev over_alone : Bool → Bool → Answer → List ℕ → Driver → Option DriverOutcome
over_alone cancelled due x memory driver = cond (is_over cancelled due x) (Some (left_alone cancelled x memory driver)) None

abbrev EndLifts : CoreState → World → ℕ → Bool → Bool → List ℕ → Driver → Option (List ℕ) → Type 0
EndLifts c w client cancelled due memory driver frame =
    option_map (beside_core c) (option_map (runs_again client) (ended_if cancelled due (left_in w answer.Waits memory driver frame).world))
    ≡ option_map (beside c w.device) (option_map (run_again client (normal_of w)) (over_alone cancelled due answer.Waits memory driver))

late_lifts : (c : CoreState) (w : World) (client : ℕ) (cancelled due : Bool) (memory : List ℕ) (driver : Driver) (frame : Option (List ℕ)) → EndLifts c w client cancelled due memory driver frame
late_lifts c w client true due memory driver frame = refl
late_lifts c w client false true memory driver frame = refl
late_lifts c w client false false memory driver frame = refl

end_lifts : (c : CoreState) (w : World) (client clock : ℕ) (wait : ClientWait) (x : Answer) (memory : List ℕ) (driver : Driver) (frame : Option (List ℕ))
    → option_map (beside_core c) (option_map (runs_again client) (ended clock wait x (left_in w x memory driver frame)))
    ≡ option_map (beside c w.device) (option_map (run_again client (normal_of w)) (over_alone wait.cancelled (is_due clock wait.deadline) x memory driver))
end_lifts c w client clock wait answer.Waits memory driver frame = late_lifts c w client wait.cancelled (is_due clock wait.deadline) memory driver frame
end_lifts c w client clock wait (answer.Gives reply) memory driver frame = refl
end_lifts c w client clock wait (answer.Refuses errno) memory driver frame = refl
end_lifts c w client clock wait (answer.Device reply) memory driver frame = refl
end_lifts c w client clock wait (answer.Clock time) memory driver frame = refl
end_lifts c w client clock wait answer.CancelAll memory driver frame = refl

wait_lifts : (c : CoreState) (w : World) (client clock : ℕ) (wait : ClientWait)
    → option_map (beside_core c) (option_map (runs_again client) (end_of_ns_wait clock wait (drained w))) ≡ option_map (beside c w.device) (wait_ended clock client wait (normal_of w))
unfolding wait_ended
wait_lifts c w client clock wait =
    let b : Acted = resumed_by wait.on (bare w.memory w.driver) in
    ap (λ o. option_map (beside_core c) (option_map (runs_again client) o)) (waits_end_anywhere clock wait w)
    ∙ end_lifts c w client clock wait b.answer b.world.memory b.world.driver b.frame

pub resume_lifts : (s : State) (client start : ℕ)
    → option_map (beside_core s.core) (client_resume s client start) ≡ option_map (beside s.core s.world.device) (client_resumed s.core.clock client start (normal_of s.world))
unfolding client_resume client_resumed
resume_lifts s client start =
    let n : Normal = normal_of s.world in
    let doing : (a : ClientActivity) → option_map (beside_core s.core) (client_resume_as s client start a) ≡ option_map (beside s.core s.world.device) (resumed_as s.core.clock client start n a) =
    λ a. elim a as (λ v. option_map (beside_core s.core) (client_resume_as s client start v) ≡ option_map (beside s.core s.world.device) (resumed_as s.core.clock client start n v)) [
      | activity.Waiting waiting wait ↦ elim (waiting == start) as (λ b. option_map (beside_core s.core) (cond b (option_map (runs_again client) (end_of_ns_wait s.core.clock wait (drained s.world))) None)
          ≡ option_map (beside s.core s.world.device) (cond b (wait_ended s.core.clock client wait n) None)) [
            | true ↦ wait_lifts s.core s.world client s.core.clock wait
            | false ↦ refl
          ]
      | activity.Running running ↦ refl
      | activity.Ended ended ↦ refl
    ] in
    elim (slice_get s.world.clients client) as (λ o. option_map (beside_core s.core) (client_resume_of s client start o)
    ≡ option_map (beside s.core s.world.device) (resumed_of s.core.clock client start n (option_map (λ (state : ClientState). state.activity) o))) [
      | None ↦ refl
      | Some found ↦ doing found.activity
    ]

-- Whether a wait has an end.

over_some : (clock : ℕ) (wait : ClientWait) (x : Answer) (a : Acted) → is_some (ended clock wait x a) ≡ is_over wait.cancelled (is_due clock wait.deadline) x
over_some clock wait answer.Waits a =
    let both : (cancelled due : Bool) → is_some (ended_if cancelled due a.world) ≡ (cancelled || due) =
    λ cancelled due. elim cancelled as (λ v. is_some (ended_if v due a.world) ≡ (v || due)) [
      | true ↦ refl
      | false ↦ elim due as (λ v. is_some (ended_if false v a.world) ≡ v) [ true ↦ refl | false ↦ refl ]
    ] in
    both wait.cancelled (is_due clock wait.deadline)
over_some clock wait (answer.Gives reply) a = refl
over_some clock wait (answer.Refuses errno) a = refl
over_some clock wait (answer.Device reply) a = refl
over_some clock wait (answer.Clock time) a = refl
over_some clock wait answer.CancelAll a = refl

over_is : (clock : ℕ) (wait : ClientWait) (memory : List ℕ) (driver : Driver)
    → is_over wait.cancelled (is_due clock wait.deadline) (resumed_by wait.on (bare memory driver)).answer ≡ wait_moves clock wait memory driver
unfolding wait_moves
over_is clock wait memory driver =
    let w : World = bare memory driver in
    let r : Acted = resumed_in wait.on w in
    sym (over_some clock wait r.answer r) ∙ (ap (λ (o : Option Acted). is_some o) (sym (waits_end_anywhere clock wait w)) ∙ waits_move_anywhere clock wait w)

pub wait_done : (clock client : ℕ) (wait : ClientWait) (n : Normal) (t : DriverOutcome) → option_map told (acted client (Some wait.on) None (bare n.memory n.driver)) ≡ Some t
    → wait_moves clock wait n.memory n.driver ≡ true → wait_ended clock client wait n ≡ Some (run_again client n (with_ended wait.cancelled t))
unfolding wait_ended
wait_done clock client wait n t is moves =
    let b : Acted = resumed_by wait.on (bare n.memory n.driver) in
    let there : Some (told b) ≡ Some t = is in
    let same : told b ≡ t = cc in
    ap (λ o. option_map (run_again client n) (cond o (Some (with_ended wait.cancelled (told b))) None)) (over_is clock wait n.memory n.driver ∙ moves)
    ∙ ap (λ (x : DriverOutcome). Some (run_again client n (with_ended wait.cancelled x))) same

pub wait_stays : (clock client : ℕ) (wait : ClientWait) (n : Normal) → wait_moves clock wait n.memory n.driver ≡ false → wait_ended clock client wait n ≡ None
unfolding wait_ended
wait_stays clock client wait n stays =
    let b : Acted = resumed_by wait.on (bare n.memory n.driver) in
    ap (λ o. option_map (run_again client n) (cond o (Some (with_ended wait.cancelled (told b))) None)) (over_is clock wait n.memory n.driver ∙ stays)

-- in a whole state

pub activity_moves_is : (clock : ℕ) (w : World) (a : ClientActivity) → client_may_move clock w a ≡ activity_moves clock w.memory w.driver a
unfolding wait_moves
activity_moves_is clock w (activity.Waiting start wait) = waits_move_anywhere clock wait w
activity_moves_is clock w (activity.Running start) = refl
activity_moves_is clock w (activity.Ended start) = refl

pub client_moves_is : (s : State) (client : ℕ) → client_movable s client ≡ activity_moves_if s.core.clock s.world.memory s.world.driver (activity_at s.world.clients client)
unfolding client_movable
client_moves_is s client =
    elim (slice_get s.world.clients client) as (λ o. client_may_move_if s o ≡ activity_moves_if s.core.clock s.world.memory s.world.driver (option_map (λ (state : ClientState). state.activity) o))
    [ None ↦ refl | Some found ↦ activity_moves_is s.core.clock s.world found.activity ]

-- Events of clients.

behind_threads : (s : State) (k client : ℕ) → k ≡ length s.core.threads + client → is_thread s k ≡ false
behind_threads s k client is = grind (arith, tests)

number_behind : (s : State) (k client : ℕ) → k ≡ length s.core.threads + client → client_number s k ≡ client
number_behind s k client is = omega arith

pub begin_is : (s : State) (k client start : ℕ) (asked : Call) → k ≡ length s.core.threads + client
    → begin s k start asked ≡ option_map (beside_core s.core) (client_begin s client start asked)
begin_is s k client start asked is =
    ap (λ b. cond b (option_map (in_kernel_world s.world) (core_begin s.core k start asked)) (option_map (beside_core s.core) (client_begin s (client_number s k) start asked))) (behind_threads s k client is)
    ∙ ap (λ n. option_map (beside_core s.core) (client_begin s n start asked)) (number_behind s k client is)

pub resume_is : (s : State) (k client start : ℕ) → k ≡ length s.core.threads + client
    → resume s k start ≡ option_map (beside_core s.core) (client_resume s client start)
resume_is s k client start is =
    ap (λ b. cond b (option_map (in_kernel_world s.world) (core_resume s.core k start)) (option_map (beside_core s.core) (client_resume s (client_number s k) start))) (behind_threads s k client is)
    ∙ ap (λ n. option_map (beside_core s.core) (client_resume s n start)) (number_behind s k client is)

pub client_step : (s : State) (threads client : ℕ) (e : Event) → threads ≡ length s.core.threads → IsOfClient threads client e
    → step s e ≡ option_map (beside s.core s.world.device) (client_acted s.core.clock client e (normal_of s.world))
unfolding step client_acted
client_step s threads client (event.Begin actor start asked) count of =
    let is : actor.0 ≡ length s.core.threads + client = omega (arith, of, count) in
    begin_is s actor.0 client start asked is ∙ begin_lifts s client start asked
client_step s threads client (event.Resume actor start) count of =
    let is : actor.0 ≡ length s.core.threads + client = omega (arith, of, count) in
    resume_is s actor.0 client start is ∙ resume_lifts s client start
client_step s threads client event.Device count of = absurd of
client_step s threads client event.Idle count of = absurd of
