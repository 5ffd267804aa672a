-- What the normal world keeps over a client's call and over the end of its wait.
use Rattle.std.proofs.Common.{◌≡◌, ◌≤◌, ◌<◌, ℕ, zero, suc, ◌+◌, ◌==◌, Bool, true, cond, List, [], ◌∷◌, length, map, replicate, Option, Some, None, refl, sym, ◌∙◌, ap, subst, arith, tests}
use Rattle.std.specs.Prelude.{slice_set}
use Rattle.std.specs.List.{All}
use Rattle.std.specs.Option.{option_map}
use Rattle.std.proofs.Math.ListN.{length-set}
use Rattle.std.proofs.lemmas.List.{length-replicate, length-map}
use Rattle.std.proofs.lemmas.List.Elements.{All-nil}
use Rattle.kernel_values.specs.declared.call.Call.{Call}
use Rattle.kernel_values.specs.declared.reply.Answer.{Answer}
use Rattle.kernel_values.specs.declared.scene.Client.{Client}
use Rattle.kernel_values.specs.declared.world.ClientActivity.TheVariants as activity
use Rattle.kernel_values.specs.declared.world.ClientState.{ClientState}
use Rattle.kernel_values.specs.declared.world.ClientWait.{ClientWait}
use Rattle.kernel_values.specs.declared.world.ClientWaitOn.{ClientWaitOn}
use Rattle.kernel_values.specs.declared.world.Driver.{Driver}
use Rattle.kernel_types.specs.Clients.{Acted, client_changed, client_ended, client_running}
use Rattle.kernel_values.specs.Calls.{is_client_call}
use Rattle.kernel_types.specs.Limits.{IsInboxWithin, full_room, room_of_call}
use Rattle.kernel_types.specs.Objects.{map_at}
use Rattle.kernel_types.specs.Opening.{opening_client, opening_driver}
use Rattle.ns_driver.specs.Acts.{DriverOutcome, acted, awaited, bare, begun, told, wait_after, wait_if}
use Rattle.ns_driver.specs.Value.{wait_of}
use Rattle.ns_driver.specs.Worlds.{clients_with, deadline_after, resumed_by}
use Rattle.ns_bridge.specs.Acts.{Answered, activity_at, asked_of_driver, call_told, called, called_of, client_called, client_resumed, ended_answer, requests, resumed_of, run_again, wait_ended, wait_moves, with_ended, with_told}
use Rattle.ns_bridge.specs.Parts.{Normal, parts}
use Rattle.ns_bridge.specs.Waits.{AreAwaited, IsKept}
use Rattle.ns_bridge.proofs.Awaiting.{begun_awaited, ended_awaited, opening_awaited, resumed_awaited, wait_is}
use Rattle.ns_bridge.proofs.Counting.{call_adds, wait_adds}
use Rattle.ns_bridge.proofs.Fitting.{FitsRoom, called_fits, resumed_fits}
use Rattle.ns_bridge.proofs.Lifting.{driver_makes, wait_done}

-- Calls of the driver.

pub wait_of_set : (waits : List (Option ClientWaitOn)) (client : ℕ) (own : Option ClientWaitOn) → client < length waits → wait_of (slice_set waits client own) client ≡ own
wait_of_set [] client own h = absurd (omega arith)
wait_of_set (on ∷ waits) zero own h = refl
wait_of_set (on ∷ waits) (suc client) own h = wait_of_set waits client own (omega arith)

asked_is : (clock client : ℕ) (asked : Call) (memory : List ℕ) (d : Driver) (clients after : List ClientState) (before own : Option ClientWaitOn) (t : DriverOutcome)
    → option_map told (acted client before (Some asked) (bare memory d)) ≡ Some t → own ≡ wait_if (awaited d asked) t.answer
    → after ≡ clients_with client (deadline_after clock asked) own clients
    → asked_of_driver clock client asked (parts memory d clients) ≡ Some (with_told after t)
unfolding asked_of_driver
asked_is clock client asked memory d clients after before own t is own_is after_is =
    ap (option_map (call_told clock client asked (parts memory d clients))) is
    ∙ ap (λ (on : Option ClientWaitOn). Some (with_told (clients_with client (deadline_after clock asked) on clients) t)) (sym own_is)
    ∙ ap (λ (cs : List ClientState). Some (with_told cs t)) (sym after_is)

-- the driver was asked by a copy of the call, and the client begins to wait as the driver says
pub asking_is : (clock client : ℕ) (asked copy : Call) (deadline : Option ℕ) (memory : List ℕ) (d : Driver) (clients after : List ClientState) (waits now : List (Option ClientWaitOn))
    (before : Option ClientWaitOn) (t : DriverOutcome) → copy ≡ asked → deadline ≡ deadline_after clock asked → client < length waits
    → option_map told (acted client before (Some copy) (bare memory d)) ≡ Some t → now ≡ slice_set waits client (wait_after d before (Some copy) t.answer)
    → after ≡ clients_with client deadline (wait_of now client) clients
    → Some (with_told after t) ≡ asked_of_driver clock client asked (parts memory d clients)
asking_is clock client asked copy deadline memory d clients after waits now before t copy_is deadline_is there is now_is after_is =
    let set_is : wait_of now client ≡ wait_if (awaited d copy) t.answer =
    ap (λ (ws : List (Option ClientWaitOn)). wait_of ws client) now_is ∙ wait_of_set waits client (wait_after d before (Some copy) t.answer) there in
    let own_is : wait_of now client ≡ wait_if (awaited d asked) t.answer = set_is ∙ ap (λ (c : Call). wait_if (awaited d c) t.answer) copy_is in
    let told_is : option_map told (acted client before (Some asked) (bare memory d)) ≡ Some t =
    subst (λ (c : Call). option_map told (acted client before (Some c) (bare memory d)) ≡ Some t) copy_is is in
    let left_is : after ≡ clients_with client (deadline_after clock asked) (wait_of now client) clients =
    after_is ∙ ap (λ (o : Option ℕ). clients_with client o (wait_of now client) clients) deadline_is in
    sym (asked_is clock client asked memory d clients after before (wait_of now client) t told_is own_is left_is)

same_number : (n : ℕ) → (n == n) ≡ true
same_number n = grind (arith, tests)

-- a client that runs, and a call that the driver makes
called_is : (clock client start : ℕ) (asked : Call) (n : Normal) → activity_at n.clients client ≡ Some (activity.Running start) → is_client_call asked ≡ true
    → client_called clock client start asked n ≡ asked_of_driver clock client asked n
unfolding client_called
called_is clock client start asked n runs d =
    ap (λ o. called_of clock client start asked n o) runs
    ∙ (ap (λ b. cond b (called clock client asked n) None) (same_number start)
    ∙ driver_makes clock client asked n d)

asked_adds : (clock client : ℕ) (asked : Call) (n : Normal) (a : Answered) → is_client_call asked ≡ true → asked_of_driver clock client asked n ≡ Some a
    → length a.normal.driver.connections ≤ length n.driver.connections + requests asked
unfolding asked_of_driver
asked_adds clock client asked n a d is =
    let P : Option Acted → Type 0 = λ o. begun client asked (bare n.memory n.driver) ≡ o → option_map (call_told clock client asked n) (option_map told o) ≡ Some a
    → length a.normal.driver.connections ≤ length n.driver.connections + requests asked in
    let some : (x : Acted) → P (Some x) = λ x done left.
    let same : call_told clock client asked n (told x) ≡ a = cc in
    let drivers : x.world.driver ≡ a.normal.driver = ap (λ (y : Answered). y.normal.driver) same in
    subst (λ (e : Driver). length e.connections ≤ length n.driver.connections + requests asked) drivers (call_adds 0 client asked (bare n.memory n.driver) x d done).few in
    let go : (o : Option Acted) → P o = λ o. elim o as (λ v. P v) [ None ↦ (λ done left. absurd (cc)) | Some x ↦ some x ] in
    go (begun client asked (bare n.memory n.driver)) refl is

pub asking_fits : (clock client start : ℕ) (asked : Call) (n : Normal) (a : Answered) → activity_at n.clients client ≡ Some (activity.Running start) → is_client_call asked ≡ true
    → All IsInboxWithin n.driver.connections → asked_of_driver clock client asked n ≡ Some a → FitsRoom (room_of_call asked) a
asking_fits clock client start asked n a runs d inboxes is =
    called_fits clock client start asked n a inboxes (called_is clock client start asked n runs d ∙ is)

pub asking_keeps : (clock client start : ℕ) (asked : Call) (deadline : Option ℕ) (own : Option ClientWaitOn) (bytes : List ℕ) (d : Driver) (ons : List (Option ClientWaitOn))
    (clients : List ClientState) (count : ℕ) (answer : Answer) (after : List ℕ) (e : Driver) (now : List (Option ClientWaitOn)) (left : List ClientState)
    → IsKept bytes d ons clients count → activity_at clients client ≡ Some (activity.Running start) → is_client_call asked ≡ true → length after ≡ length bytes
    → Some (record { answer = answer; normal = parts after e left }) ≡ asked_of_driver clock client asked (parts bytes d clients)
    → left ≡ clients_with client deadline own clients → now ≡ slice_set ons client own
    → IsKept after e now left (count + requests asked)
asking_keeps clock client start asked deadline own bytes d ons clients count answer after e now left k runs d_is long done left_is now_is =
    let a : Answered = record { answer = answer; normal = parts after e left } in
    let waits : AreAwaited (clients_with client deadline own clients) (slice_set ons client own) = begun_awaited clients ons client start deadline own k.waits runs in
    let here : AreAwaited left (slice_set ons client own) = subst (λ (cs : List ClientState). AreAwaited cs (slice_set ons client own)) (sym left_is) waits in
    let adds : length e.connections ≤ length d.connections + requests asked = asked_adds clock client asked (parts bytes d clients) a d_is (sym done) in
    record {
      memory = long ∙ k.memory;
      waits = subst (λ (ws : List (Option ClientWaitOn)). AreAwaited left ws) (sym now_is) here;
      many = omega (arith, k.many, ap length now_is, length-set ons client own);
      few = omega (arith, k.few, adds);
      inboxes = (asking_fits clock client start asked (parts bytes d clients) a runs d_is k.inboxes (sym done)).inboxes;
    }

-- A client that ends.

pub ending_keeps : (client : ℕ) (bytes : List ℕ) (d : Driver) (ons : List (Option ClientWaitOn)) (clients : List ClientState) (count : ℕ)
    → IsKept bytes d ons clients count → IsKept bytes d ons (map_at (client_changed client_ended) clients client) count
ending_keeps client bytes d ons clients count k = record {
  memory = k.memory;
  waits = ended_awaited clients ons client k.waits;
  many = k.many;
  few = k.few;
  inboxes = k.inboxes;
}

-- Ends of waits.

resumed_is : (clock client start : ℕ) (wait : ClientWait) (n : Normal) → activity_at n.clients client ≡ Some (activity.Waiting start wait)
    → client_resumed clock client start n ≡ wait_ended clock client wait n
unfolding client_resumed
resumed_is clock client start wait n waits =
    ap (λ o. resumed_of clock client start n o) waits ∙ ap (λ b. cond b (wait_ended clock client wait n) None) (same_number start)

-- a wait that moves, and what the driver told at its end
pub record Ends (clock client start : ℕ) (wait : ClientWait) (n : Normal) (t : DriverOutcome) : Type 0 where
  pub waits : activity_at n.clients client ≡ Some (activity.Waiting start wait)
  pub told_is : option_map told (acted client (Some wait.on) None (bare n.memory n.driver)) ≡ Some t
  pub moves : wait_moves clock wait n.memory n.driver ≡ true

-- by what the driver knows of the wait, and by what the test and the driver saw of the memory
pub ends_so : (clock client start : ℕ) (wait : ClientWait) (bytes looked seen : List ℕ) (d : Driver) (ons : List (Option ClientWaitOn)) (clients : List ClientState) (t : DriverOutcome) (moves : Bool)
    → AreAwaited clients ons → activity_at clients client ≡ Some (activity.Waiting start wait) → moves ≡ wait_moves clock wait looked d → moves ≡ true → looked ≡ bytes
    → option_map told (acted client (wait_of ons client) None (bare seen d)) ≡ Some t → seen ≡ bytes → Ends clock client start wait (parts bytes d clients) t
ends_so clock client start wait bytes looked seen d ons clients t moves awaited waits moves_is does looked_is is seen_is =
    let on : wait_of ons client ≡ Some wait.on = wait_is clients ons awaited client start wait waits in
    let here : option_map told (acted client (wait_of ons client) None (bare bytes d)) ≡ Some t =
    subst (λ (xs : List ℕ). option_map told (acted client (wait_of ons client) None (bare xs d)) ≡ Some t) seen_is is in
    record {
      waits = waits;
      told_is = subst (λ (o : Option ClientWaitOn). option_map told (acted client o None (bare bytes d)) ≡ Some t) on here;
      moves = sym (moves_is ∙ ap (λ (xs : List ℕ). wait_moves clock wait xs d) looked_is) ∙ does;
    }

ends_done : (clock client start : ℕ) (wait : ClientWait) (n : Normal) (t : DriverOutcome) → Ends clock client start wait n t
    → client_resumed clock client start n ≡ Some (run_again client n (with_ended wait.cancelled t))
ends_done clock client start wait n t e = resumed_is clock client start wait n e.waits ∙ wait_done clock client wait n t e.told_is e.moves

-- what the world is after such an end
pub ended_so : (clock client start asked : ℕ) (wait : ClientWait) (n : Normal) (t : DriverOutcome) (answer : Answer) (bytes : List ℕ) (left : List ClientState) → Ends clock client start wait n t
    → start ≡ asked → answer ≡ ended_answer wait.cancelled t.answer → bytes ≡ t.memory → left ≡ map_at (client_changed client_running) n.clients client
    → Some (record { answer = answer; normal = parts bytes t.driver left }) ≡ client_resumed clock client asked n
ended_so clock client start asked wait n t answer bytes left e same answer_is bytes_is left_is =
    let after : List ℕ → List ClientState → Answer → Option Answered = λ (xs : List ℕ) (cs : List ClientState) (x : Answer). Some (record { answer = x; normal = parts xs t.driver cs }) in
    let again : List ClientState = map_at (client_changed client_running) n.clients client in
    ap (λ (xs : List ℕ). after xs left answer) bytes_is ∙ ap (λ (cs : List ClientState). after t.memory cs answer) left_is ∙ ap (λ (x : Answer). after t.memory again x) answer_is
    ∙ sym (ends_done clock client start wait n t e) ∙ ap (λ (k : ℕ). client_resumed clock client k n) same

pub ended_fits : (clock client start : ℕ) (wait : ClientWait) (n : Normal) (t : DriverOutcome) → Ends clock client start wait n t → All IsInboxWithin n.driver.connections
    → FitsRoom full_room (run_again client n (with_ended wait.cancelled t))
ended_fits clock client start wait n t e inboxes =
    resumed_fits clock client start n (run_again client n (with_ended wait.cancelled t)) inboxes (ends_done clock client start wait n t e)

told_adds : (client : ℕ) (on : ClientWaitOn) (memory : List ℕ) (d : Driver) (t : DriverOutcome) → option_map told (acted client (Some on) None (bare memory d)) ≡ Some t
    → length t.driver.connections ≤ length d.connections
told_adds client on memory d t is =
    let b : Acted = resumed_by on (bare memory d) in
    let there : Some (told b) ≡ Some t = is in
    let same : told b ≡ t = cc in
    omega (arith, (wait_adds on (bare memory d)).few, ap (λ (x : DriverOutcome). length x.driver.connections) same)

pub ended_keeps : (clock client start : ℕ) (wait : ClientWait) (own : Option ClientWaitOn) (bytes : List ℕ) (d : Driver) (ons : List (Option ClientWaitOn)) (clients : List ClientState)
    (count : ℕ) (t : DriverOutcome) (now : List (Option ClientWaitOn)) → IsKept bytes d ons clients count → Ends clock client start wait (parts bytes d clients) t
    → length t.memory ≡ length bytes → now ≡ slice_set ons client own → IsKept t.memory t.driver now (map_at (client_changed client_running) clients client) count
ended_keeps clock client start wait own bytes d ons clients count t now k e long now_is =
    let here : AreAwaited (map_at (client_changed client_running) clients client) (slice_set ons client own) = resumed_awaited clients ons client own k.waits in
    record {
      memory = long ∙ k.memory;
      waits = subst (λ (ws : List (Option ClientWaitOn)). AreAwaited (map_at (client_changed client_running) clients client) ws) (sym now_is) here;
      many = omega (arith, k.many, ap length now_is, length-set ons client own);
      few = omega (arith, k.few, told_adds client wait.on bytes d t e.told_is);
      inboxes = (ended_fits clock client start wait (parts bytes d clients) t e k.inboxes).inboxes;
    }

-- The beginning.

pub opening_keeps : (bytes : List ℕ) (d : Driver) (ons : List (Option ClientWaitOn)) (clients : List Client) (states : List ClientState) (size n : ℕ) → length bytes ≡ 1048576
    → d ≡ opening_driver size → ons ≡ replicate n None → states ≡ map opening_client clients → n ≡ length states → n ≤ 4294967295 → IsKept bytes d ons states 0
opening_keeps bytes d ons clients states size n long d_is ons_is states_is count few =
    let counts : n ≡ length clients = count ∙ (ap length states_is ∙ length-map clients opening_client) in
    let there : AreAwaited (map opening_client clients) (replicate n None) = opening_awaited clients n counts in
    let here : AreAwaited states (replicate n None) = subst (λ (cs : List ClientState). AreAwaited cs (replicate n None)) (sym states_is) there in
    let none : length d.connections ≤ 0 = omega (arith, ap (λ (e : Driver). length e.connections) d_is) in
    let short : All IsInboxWithin (opening_driver size).connections = All-nil IsInboxWithin in
    record {
      memory = long;
      waits = subst (λ (ws : List (Option ClientWaitOn)). AreAwaited states ws) (sym ons_is) here;
      many = omega (arith, few, ap length ons_is, length-replicate {A = Option ClientWaitOn} n None);
      few = none;
      inboxes = subst (λ (e : Driver). All IsInboxWithin e.connections) (sym d_is) short;
    }
