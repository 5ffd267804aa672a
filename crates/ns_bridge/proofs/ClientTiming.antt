-- No step of a client brings a deadline that is not near.
use Rattle.std.proofs.Common.{◌≡◌, ◌≤◌, ℕ, ◌==◌, true, false, cond, List, [], ◌∷◌, map, Option, Some, None, sym, subst, arith}
use Rattle.std.specs.Option.{option_map}
use Rattle.kernel_values.specs.declared.call.Call.{Call}
use Rattle.kernel_values.specs.declared.call.Call.TheVariants as call
use Rattle.kernel_values.specs.declared.entry.Event.{Event}
use Rattle.kernel_values.specs.declared.entry.Event.TheVariants as event
use Rattle.kernel_values.specs.declared.reply.Answer.{Answer}
use Rattle.kernel_values.specs.declared.world.ClientActivity.{ClientActivity}
use Rattle.kernel_values.specs.declared.world.ClientActivity.TheVariants as activity
use Rattle.kernel_values.specs.declared.world.ClientState.{ClientState}
use Rattle.kernel_values.specs.declared.world.ClientWait.{ClientWait}
use Rattle.kernel_values.specs.declared.world.ClientWaitOn.{ClientWaitOn}
use Rattle.kernel_types.specs.Clients.{client_cancelled, client_changed, client_ended, client_running, client_waiting, new_wait}
use Rattle.kernel_values.specs.declared.call.CallKind.TheVariants as kind
use Rattle.kernel_values.specs.Calls.{kind_of}
use Rattle.kernel_types.specs.Waits.{is_due}
use Rattle.ns_driver.specs.Acts.{acted, awaited, bare, told, wait_if}
use Rattle.ns_driver.specs.Worlds.{clients_with, deadline_after}
use Rattle.ns_bridge.specs.Acts.{Answered, activity_at, answered_if, asked_of_driver, call_told, called, called_as, called_by, called_of, client_acted, client_called, client_resumed, resumed_as, resumed_of, run_again, told_if, wait_ended}
use Rattle.ns_bridge.specs.Parts.{Normal}
use Rattle.ns_bridge.specs.Timely.{AreClientsInTime, IsClientInTime, IsNear, IsShortCall, IsShortEvent}
use Rattle.ns_bridge.proofs.Timing.{all_changed, near_after, one_changed}

abbrev in_time : ℕ → ClientState → Type 0
in_time clock client = IsClientInTime clock client.activity

waiting_in_time : (clock : ℕ) (wait : ClientWait) → IsNear clock wait.deadline → (a : ClientActivity) → IsClientInTime clock a → IsClientInTime clock (client_waiting wait a)
waiting_in_time clock wait near (activity.Running start) k = near
waiting_in_time clock wait near (activity.Waiting start other) k = k
waiting_in_time clock wait near (activity.Ended start) k = tt

running_in_time : (clock : ℕ) (a : ClientActivity) → IsClientInTime clock a → IsClientInTime clock (client_running a)
running_in_time clock (activity.Running start) k = tt
running_in_time clock (activity.Waiting start wait) k = tt
running_in_time clock (activity.Ended start) k = tt

ended_in_time : (clock : ℕ) (a : ClientActivity) → IsClientInTime clock a → IsClientInTime clock (client_ended a)
ended_in_time clock (activity.Running start) k = tt
ended_in_time clock (activity.Waiting start wait) k = k
ended_in_time clock (activity.Ended start) k = tt

cancelled_in_time : (clock : ℕ) (a : ClientActivity) → IsClientInTime clock a → IsClientInTime clock (client_cancelled a)
cancelled_in_time clock (activity.Running start) k = tt
cancelled_in_time clock (activity.Waiting start wait) k = k
cancelled_in_time clock (activity.Ended start) k = tt

near_of_call : (clock : ℕ) (asked : Call) → IsShortCall asked → IsNear clock (deadline_after clock asked)
near_of_call clock (call.NsRecv conn timeout) short = near_after clock timeout short
near_of_call clock other short = tt

with_wait : (clock client : ℕ) (deadline : Option ℕ) → IsNear clock deadline → (on : Option ClientWaitOn) (clients : List ClientState) → AreClientsInTime clock clients
    → AreClientsInTime clock (clients_with client deadline on clients)
with_wait clock client deadline near None clients k = k
with_wait clock client deadline near (Some on) clients k =
    one_changed (in_time clock) (client_changed (client_waiting (new_wait on deadline))) (λ state t. waiting_in_time clock (new_wait on deadline) near state.activity t) clients client k

-- what an answer leaves
abbrev InTimeIf : ℕ → Option Answered → Type 0
InTimeIf clock None = Unit {0}
InTimeIf clock (Some answered) = AreClientsInTime clock answered.normal.clients

asked_in_time : (clock client : ℕ) (asked : Call) (n : Normal) → IsShortCall asked → AreClientsInTime clock n.clients → InTimeIf clock (asked_of_driver clock client asked n)
unfolding asked_of_driver
asked_in_time clock client asked n short k =
    elim (option_map told (acted client None (Some asked) (bare n.memory n.driver))) as (λ o. InTimeIf clock (option_map (call_told clock client asked n) o)) [
      | None ↦ tt
      | Some t ↦ with_wait clock client (deadline_after clock asked) (near_of_call clock asked short) (wait_if (awaited n.driver asked) t.answer) n.clients k
    ]

called_in_time : (clock client start : ℕ) (asked : Call) (n : Normal) → IsShortCall asked → AreClientsInTime clock n.clients → InTimeIf clock (client_called clock client start asked n)
unfolding client_called called
called_in_time clock client start asked n short k =
    let done : InTimeIf clock (called clock client asked n) =
    elim (kind_of asked) as (λ v. InTimeIf clock (called_by v clock client asked n)) [
      | kind.Thread ↦ tt
      | kind.Finish ↦ one_changed (in_time clock) (client_changed client_ended) (λ state t. ended_in_time clock state.activity t) n.clients client k
      | kind.Driver ↦ asked_in_time clock client asked n short k
      | kind.Direct ↦ asked_in_time clock client asked n short k
    ] in
    let doing : (a : ClientActivity) → InTimeIf clock (called_as clock client start asked n a) =
    λ a. elim a as (λ v. InTimeIf clock (called_as clock client start asked n v)) [
      | activity.Running running ↦ elim (running == start) as (λ b. InTimeIf clock (cond b (called clock client asked n) None)) [ true ↦ done | false ↦ tt ]
      | activity.Waiting since wait ↦ tt
      | activity.Ended since ↦ tt
    ] in
    elim (activity_at n.clients client) as (λ o. InTimeIf clock (called_of clock client start asked n o)) [ None ↦ tt | Some a ↦ doing a ]

ended_wait_in_time : (clock client : ℕ) (wait : ClientWait) (n : Normal) → AreClientsInTime clock n.clients → InTimeIf clock (wait_ended clock client wait n)
unfolding wait_ended
ended_wait_in_time clock client wait n k =
    elim (told_if wait.cancelled (is_due clock wait.deadline) (option_map told (acted client (Some wait.on) None (bare n.memory n.driver)))) as (λ o. InTimeIf clock (option_map (run_again client n) o)) [
      | None ↦ tt
      | Some t ↦ one_changed (in_time clock) (client_changed client_running) (λ state t. running_in_time clock state.activity t) n.clients client k
    ]

resumed_in_time : (clock client start : ℕ) (n : Normal) → AreClientsInTime clock n.clients → InTimeIf clock (client_resumed clock client start n)
unfolding client_resumed
resumed_in_time clock client start n k =
    let doing : (a : ClientActivity) → InTimeIf clock (resumed_as clock client start n a) =
    λ a. elim a as (λ v. InTimeIf clock (resumed_as clock client start n v)) [
      | activity.Waiting waiting wait ↦ elim (waiting == start) as (λ b. InTimeIf clock (cond b (wait_ended clock client wait n) None)) [
        | true ↦ ended_wait_in_time clock client wait n k
        | false ↦ tt
      ]
      | activity.Running since ↦ tt
      | activity.Ended since ↦ tt
    ] in
    elim (activity_at n.clients client) as (λ o. InTimeIf clock (resumed_of clock client start n o)) [ None ↦ tt | Some a ↦ doing a ]

acted_in_time : (clock client : ℕ) (e : Event) (n : Normal) → IsShortEvent e → AreClientsInTime clock n.clients → InTimeIf clock (client_acted clock client e n)
unfolding client_acted
acted_in_time clock client (event.Begin actor start asked) n short k = called_in_time clock client start asked n short k
acted_in_time clock client (event.Resume actor start) n short k = resumed_in_time clock client start n k
acted_in_time clock client event.Device n short k = tt
acted_in_time clock client event.Idle n short k = tt

pub clients_stay_in_time : (clock client : ℕ) (e : Event) (n after : Normal) (answer : Answer) → answered_if (Some answer) after ≡ client_acted clock client e n → IsShortEvent e
    → AreClientsInTime clock n.clients → AreClientsInTime clock after.clients
clients_stay_in_time clock client e n after answer done short k = subst (λ (o : Option Answered). InTimeIf clock o) (sym done) (acted_in_time clock client e n short k)

-- time passes

pub later_near : (clock later : ℕ) → clock ≤ later → (deadline : Option ℕ) → IsNear clock deadline → IsNear later deadline
later_near clock later h None near = tt
later_near clock later h (Some deadline) near = omega (arith, near, h)

later_in_time : (clock later : ℕ) → clock ≤ later → (a : ClientActivity) → IsClientInTime clock a → IsClientInTime later a
later_in_time clock later h (activity.Running start) k = tt
later_in_time clock later h (activity.Waiting start wait) k = later_near clock later h wait.deadline k
later_in_time clock later h (activity.Ended start) k = tt

pub later_clients : (clock later : ℕ) → clock ≤ later → (clients : List ClientState) → AreClientsInTime clock clients → AreClientsInTime later clients
later_clients clock later h [] k = tt
later_clients clock later h (client ∷ clients) k = (later_in_time clock later h client.activity k.0, later_clients clock later h clients k.1)

pub cancelled_clients : (clock : ℕ) (clients : List ClientState) → AreClientsInTime clock clients → AreClientsInTime clock (map (client_changed client_cancelled) clients)
cancelled_clients clock clients k = all_changed (in_time clock) (client_changed client_cancelled) (λ state t. cancelled_in_time clock state.activity t) clients k
