-- What the turns of a worker add.
use Rattle.std.proofs.Common.{◌≡◌, ℕ, List, Option, Some, None, refl, ap, sym, subst}
use Rattle.kernel_values.specs.declared.call.Call.{Call}
use Rattle.kernel_values.specs.declared.entry.ActorStatus.{ActorStatus}
use Rattle.kernel_values.specs.declared.entry.ActorStatus.TheVariants as status
use Rattle.kernel_values.specs.declared.entry.Entry.{Entry}
use Rattle.kernel_values.specs.declared.entry.Event.{Event}
use Rattle.kernel_values.specs.declared.entry.Event.TheVariants as event
use Rattle.kernel_values.specs.declared.scene.Turn.{Turn}
use Rattle.kernel_values.specs.declared.scene.Turn.TheVariants as turn
use Rattle.kernel_values.specs.declared.script.Command.{Command}
use Rattle.kernel_types.specs.Facts.{status_at}
use Rattle.kernel_types.specs.History.{entry_of}
use Rattle.kernel_types.specs.Scripts.{next_call, stand_on, script_begin}
use Rattle.kernel_types.specs.Whole.{answers_in}
use Rattle.kernel_types.specs.Step.{Stepped, step}
use Rattle.kernel_types.specs.Turns.{Run, grown, run_event, run_turn, event_of, begin_if, begin_by_script, event_by_status}
use Rattle.std.specs.Prelude.{slice_get}
use Rattle.runners.specs.declared.steps.Taken.TheVariants as taken
use Rattle.runners.specs.Runs.{CanTake, ScriptedRun, run_told, TookTurn}
use Rattle.runners.specs.Workers.{IsOwn, IsTurnOf, AddsOwn, Served}
use Rattle.runners.specs.declared.rounds.Round.TheVariants as round

-- the event of an actor's turn is the actor's

begin_own : (actor start : ℕ) (what : Option Call) (e : Event) → begin_if actor start what ≡ Some e → IsOwn actor e
begin_own actor start None e is = absurd (cc)
begin_own actor start (Some what) e is =
    let same : event.Begin (record { 0 = actor }) start what ≡ e = cc in
    subst (λ (f : Event). IsOwn actor f) same refl

script_own : (entries : List Entry) (actor start : ℕ) (script : Option (List Command)) (e : Event) → begin_by_script entries actor start script ≡ Some e → IsOwn actor e
script_own entries actor start None e is = absurd (cc)
script_own entries actor start (Some script) e is = begin_own actor start (next_call script (stand_on script script_begin (answers_in actor start entries))) e is

status_own : (scripts : List (List Command)) (entries : List Entry) (actor : ℕ) (what : Option ActorStatus) (e : Event) → event_by_status scripts entries actor what ≡ Some e → IsOwn actor e
status_own scripts entries actor None e is = absurd (cc)
status_own scripts entries actor (Some (status.Running start)) e is = script_own entries actor start (slice_get scripts actor) e is
status_own scripts entries actor (Some (status.Waiting start)) e is =
    let same : event.Resume (record { 0 = actor }) start ≡ e = cc in
    subst (λ (f : Event). IsOwn actor f) same refl
status_own scripts entries actor (Some status.Off) e is = absurd (cc)
status_own scripts entries actor (Some (status.Ended start)) e is = absurd (cc)

event_own : (scripts : List (List Command)) (run : Run) (actor : ℕ) (t : Turn) (e : Event) → IsTurnOf actor t → event_of scripts run t ≡ Some e → IsOwn actor e
unfolding event_of
event_own scripts run actor (turn.Actor other) e is means =
    subst (λ (n : ℕ). IsOwn n e) is (status_own scripts run.entries other (status_at run.state other) e means)
event_own scripts run actor turn.Device e is means =
    let same : event.Device ≡ e = cc in
    subst (λ (f : Event). IsOwn actor f) same tt
event_own scripts run actor turn.Idle e is means =
    let same : event.Idle ≡ e = cc in
    subst (λ (f : Event). IsOwn actor f) same tt

-- a turn that was taken adds its event's entry

step_adds : (actor : ℕ) (run next : Run) (e : Event) (r : Option Stepped) → IsOwn actor e → step run.state e ≡ r → run_event step run (Some e) ≡ Some next
    → AddsOwn actor run.entries next.entries
step_adds actor run next e None own r_is is = absurd (cc (rw r_is at is))
step_adds actor run next e (Some stepped) own r_is is =
    let found : grown run e stepped ≡ next = cc (rw r_is at is) in
    record { entry = entry_of e stepped; own = own; longer_is = ap (λ (r : Run). r.entries) (sym found) }

event_adds : (actor : ℕ) (run next : Run) (e : Option Event) → ((f : Event) → e ≡ Some f → IsOwn actor f) → run_event step run e ≡ Some next → AddsOwn actor run.entries next.entries
event_adds actor run next None own is = absurd (cc)
event_adds actor run next (Some e) own is = step_adds actor run next e (step run.state e) (own e refl) refl is

pub served_step : (actor : ℕ) (t : Turn) (told next : ScriptedRun) → IsTurnOf actor t → TookTurn t told next taken.Stepped → Served actor told next round.Stepped
served_step actor t told next is took =
    event_adds actor (run_told told) (run_told next) (event_of told.origin.scripts (run_told told) t) (λ e means. event_own told.origin.scripts (run_told told) actor t e is means) took

-- a turn that can be taken is lawful
pub never_unlawful : (t : Turn) (told next : ScriptedRun) → CanTake told t → TookTurn t told next taken.Unlawful → ⊥
never_unlawful t told next can took =
    let some : run_turn step told.origin.scripts (run_told told) t ≡ Some can.0 = can.1 in
    let none : run_turn step told.origin.scripts (run_told told) t ≡ None = took.0 in
    absurd (cc)
