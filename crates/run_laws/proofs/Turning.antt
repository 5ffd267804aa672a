-- Turns from a run in which every thread and every client stands at its script.
use Rattle.std.proofs.Common.{◌≡◌, ℕ, ◌+◌, Bool, true, false, cond, List, length, Option, Some, None, refl, ap, sym, ◌∙◌, subst}
use Rattle.std.specs.Prelude.{slice_get}
use Rattle.std.specs.Option.{option_map, is_some}
use Rattle.kernel_values.specs.declared.call.Call.{Call}
use Rattle.kernel_values.specs.declared.entry.ActorStatus.{ActorStatus}
use Rattle.kernel_values.specs.declared.entry.ActorStatus.TheVariants as status
use Rattle.kernel_values.specs.declared.entry.Event.{Event}
use Rattle.kernel_values.specs.declared.entry.Event.TheVariants as event
use Rattle.kernel_values.specs.declared.scene.Turn.{Turn}
use Rattle.kernel_values.specs.declared.scene.Turn.TheVariants as turn
use Rattle.kernel_values.specs.declared.script.Command.{Command}
use Rattle.kernel_values.specs.declared.state.Activity.{Activity}
use Rattle.kernel_values.specs.declared.state.Activity.TheVariants as activity
use Rattle.kernel_values.specs.declared.state.CoreState.{CoreState}
use Rattle.kernel_values.specs.declared.state.State.{State}
use Rattle.kernel_values.specs.declared.state.Thread.{Thread}
use Rattle.kernel_values.specs.declared.state.Wait.{Wait}
use Rattle.kernel_values.specs.declared.world.ClientActivity.{ClientActivity}
use Rattle.kernel_values.specs.declared.world.ClientActivity.TheVariants as client_activity
use Rattle.kernel_values.specs.declared.world.ClientState.{ClientState}
use Rattle.kernel_values.specs.declared.world.ClientWait.{ClientWait}
use Rattle.kernel_types.proofs.Actors.{client_moves, thread_is_thread, thread_moves}
use Rattle.kernel_types.specs.Clients.{Acted, end_of_ns_wait, ns_act}
use Rattle.kernel_types.specs.Device.{DeviceStep, device_step}
use Rattle.kernel_types.specs.Drains.{drained}
use Rattle.kernel_types.specs.Facts.{status_at}
use Rattle.kernel_types.specs.Outcome.{Outcome, no_seqs}
use Rattle.kernel_types.specs.Scripts.{Stand, next_call}
use Rattle.kernel_types.specs.CoreStep.{act, status_of, swept, resumed}
use Rattle.kernel_types.specs.Step.{Stepped, beside_core, client_movable, client_status, device_has_work, device_stepped, step, idle, idle_lawful, in_world, movable, runs_again}
use Rattle.kernel_types.specs.Turns.{Run, grown, event_of, run_event, run_turn, takes_turn, kernel_turn, begin_by_script, begin_if, event_by_status}
use Rattle.kernel_types.specs.Waits.{end_of_wait, thread_movable}
use Rattle.kernel_values.specs.Calls.{is_of_client, is_of_thread}
use Rattle.run_laws.proofs.Calling.{IsNext, acted_of, client_next, outcome_of, some_of, thread_next}
use Rattle.run_laws.proofs.ClientSteps.{client_stays_waiting}
use Rattle.run_laws.proofs.Everyone.{Actor, Everyone, Stepping, actor_of, client_begins, client_resumes, device_turns, idles, thread_begins, thread_resumes}
use Rattle.run_laws.proofs.Everyone.Actor.{is_client, is_none, is_thread}
use Rattle.run_laws.proofs.Longer.{entry_with}
use Rattle.run_laws.proofs.Scripted.{FitsAt, HasScript, at_scripts, fits_call, fits_end, stood}
use Rattle.run_laws.proofs.Stepping.{stays_waiting}

abbrev pub AtScripts : List (List Command) → Run → Type 0
AtScripts scripts run = Everyone (at_scripts scripts) run.entries run.state

-- How an actor can take a turn: it runs, or the end of its wait is there.

data Taking (s : State) (actor : ℕ) : Type 0 where
  runs : (thread : Thread) (start : ℕ) → slice_get s.core.threads actor ≡ Some thread → thread.activity ≡ activity.Running start → status_at s actor ≡ Some (status.Running start) → Taking s actor
  wakes : (thread : Thread) (start : ℕ) (w : Wait) → slice_get s.core.threads actor ≡ Some thread → thread.activity ≡ activity.Waiting start w → status_at s actor ≡ Some (status.Waiting start)
      → is_some (end_of_wait s.core thread.app w) ≡ true → Taking s actor
  client_runs : (k : ℕ) (client : ClientState) (start : ℕ) → actor ≡ length s.core.threads + k → slice_get s.world.clients k ≡ Some client
      → client.activity ≡ client_activity.Running start → status_at s actor ≡ Some (status.Running start) → Taking s actor
  client_wakes : (k : ℕ) (client : ClientState) (start : ℕ) (w : ClientWait) → actor ≡ length s.core.threads + k → slice_get s.world.clients k ≡ Some client
      → client.activity ≡ client_activity.Waiting start w → status_at s actor ≡ Some (status.Waiting start)
      → is_some (end_of_ns_wait s.core.clock w (drained s.world)) ≡ true → Taking s actor

end_is_there : (c : CoreState) (k start : ℕ) (thread : Thread) (w : Wait) → slice_get c.threads k ≡ Some thread → thread.activity ≡ activity.Waiting start w
    → thread_movable c k ≡ is_some (end_of_wait c thread.app w)
unfolding thread_movable
end_is_there c k start thread w thread_is activity_is = rw (thread_is, activity_is) refl

movable_is : (s : State) (k start : ℕ) (thread : Thread) (w : Wait) → slice_get s.core.threads k ≡ Some thread → thread.activity ≡ activity.Waiting start w
    → movable s k ≡ is_some (end_of_wait s.core thread.app w)
movable_is s k start thread w thread_is activity_is =
    thread_moves s k (thread_is_thread s k thread thread_is) ∙ end_is_there s.core k start thread w thread_is activity_is

client_end_is_there : (s : State) (k start : ℕ) (client : ClientState) (w : ClientWait) → slice_get s.world.clients k ≡ Some client → client.activity ≡ client_activity.Waiting start w
    → client_movable s k ≡ is_some (end_of_ns_wait s.core.clock w (drained s.world))
unfolding client_movable
client_end_is_there s k start client w client_is activity_is = rw (client_is, activity_is) refl

client_movable_is : (s : State) (actor k start : ℕ) (client : ClientState) (w : ClientWait) → actor ≡ length s.core.threads + k → slice_get s.world.clients k ≡ Some client
    → client.activity ≡ client_activity.Waiting start w → movable s actor ≡ is_some (end_of_ns_wait s.core.clock w (drained s.world))
client_movable_is s actor k start client w actor_is client_is activity_is =
    ap (λ n. movable s n) actor_is ∙ (client_moves s k ∙ client_end_is_there s k start client w client_is activity_is)

thread_taking : (s : State) (k : ℕ) (thread : Thread) (a : Activity) → slice_get s.core.threads k ≡ Some thread → thread.activity ≡ a → status_at s k ≡ Some (status_of a)
    → takes_turn s k ≡ true → Taking s k
thread_taking s k thread activity.Off thread_is a_is is takes = absurd (cc (rw is at takes))
thread_taking s k thread (activity.Running start) thread_is a_is is takes = runs thread start thread_is a_is is
thread_taking s k thread (activity.Waiting start w) thread_is a_is is takes =
    let moves : movable s k ≡ true = rw is at takes in
    wakes thread start w thread_is a_is is (sym (movable_is s k start thread w thread_is a_is) ∙ moves)
thread_taking s k thread (activity.Ended start) thread_is a_is is takes = absurd (cc (rw is at takes))

client_taking : (s : State) (actor k : ℕ) (client : ClientState) (a : ClientActivity) → actor ≡ length s.core.threads + k → slice_get s.world.clients k ≡ Some client → client.activity ≡ a
    → status_at s actor ≡ Some (client_status a) → takes_turn s actor ≡ true → Taking s actor
client_taking s actor k client (client_activity.Running start) actor_is client_is a_is is takes = client_runs k client start actor_is client_is a_is is
client_taking s actor k client (client_activity.Waiting start w) actor_is client_is a_is is takes =
    let moves : movable s actor ≡ true = rw is at takes in
    client_wakes k client start w actor_is client_is a_is is (sym (client_movable_is s actor k start client w actor_is client_is a_is) ∙ moves)
client_taking s actor k client (client_activity.Ended start) actor_is client_is a_is is takes = absurd (cc (rw is at takes))

taking_by : (s : State) (actor : ℕ) → Actor s actor → takes_turn s actor ≡ true → Taking s actor
taking_by s actor (is_thread thread thread_is is) takes = thread_taking s actor thread thread.activity thread_is refl is takes
taking_by s actor (is_client k client actor_is client_is is) takes = client_taking s actor k client client.activity actor_is client_is refl is takes
taking_by s actor (is_none is) takes = absurd (cc (rw is at takes))

-- Its event.

begins : (scripts : List (List Command)) (run : Run) (k start : ℕ) (script : List Command) (asked : Call) → status_at run.state k ≡ Some (status.Running start)
    → slice_get scripts k ≡ Some script → next_call script (stood script k start run.entries) ≡ Some asked
    → event_of scripts run (turn.Actor k) ≡ Some (event.Begin (record { 0 = k }) start asked)
unfolding event_of
begins scripts run k start script asked is script_is next =
    ap (λ (o : Option ActorStatus). event_by_status scripts run.entries k o) is
    ∙ (ap (λ (o : Option (List Command)). begin_by_script run.entries k start o) script_is ∙ ap (λ (o : Option Call). begin_if k start o) next)

resumes : (scripts : List (List Command)) (run : Run) (k start : ℕ) → status_at run.state k ≡ Some (status.Waiting start)
    → event_of scripts run (turn.Actor k) ≡ Some (event.Resume (record { 0 = k }) start)
unfolding event_of
resumes scripts run k start is = ap (λ (o : Option ActorStatus). event_by_status scripts run.entries k o) is

turns : (scripts : List (List Command)) (run : Run) (t : Turn) (e : Event) (stepped : Stepped) → event_of scripts run t ≡ Some e → step run.state e ≡ Some stepped
    → run_turn step scripts run t ≡ Some (grown run e stepped)
turns scripts run t e stepped event_is is = ap (λ (o : Option Event). run_event step run o) event_is ∙ ap (λ (o : Option Stepped). option_map (grown run e) o) is

-- An actor that can take a turn takes it.

pub record Taken (scripts : List (List Command)) (run : Run) (t : Turn) : Type 0 where
  pub next : Run
  pub took : run_turn step scripts run t ≡ Some next
  pub placed : AtScripts scripts next

-- a turn whose event is there, and is lawful
taken_at : (scripts : List (List Command)) (run : Run) (t : Turn) (e : Event) (stepped : Stepped) → event_of scripts run t ≡ Some e
    → Stepping (at_scripts scripts) run.entries run.state e stepped → Taken scripts run t
taken_at scripts run t e stepped event_is stepping = record {
  next = grown run e stepped;
  took = turns scripts run t e stepped event_is stepping.is;
  placed = stepping.stand;
}

begun : (scripts : List (List Command)) (run : Run) (k start : ℕ) (thread : Thread) → AtScripts scripts run → slice_get run.state.core.threads k ≡ Some thread
    → thread.activity ≡ activity.Running start → status_at run.state k ≡ Some (status.Running start) → Taken scripts run (turn.Actor k)
begun scripts run k start thread placed thread_is activity_is is =
    let own : HasScript is_of_thread scripts k = (placed.all k thread thread_is).known.thread in
    let stand : Stand = stood own.script k start run.entries in
    let fits : FitsAt scripts run.entries k (status.Running start) = subst (λ (a : Activity). FitsAt scripts run.entries k (status_of a)) activity_is (placed.all k thread thread_is).fits in
    let call : (asked : Call) × IsNext is_of_thread own.script stand asked = thread_next own.script stand own.callable (fits own.script own.script_is) in
    let done : (outcome : Outcome) × (act run.state.core k thread.app call.0 ≡ Some outcome) = outcome_of run.state.core k thread.app call.0 call.1.kind in
    taken_at scripts run (turn.Actor k) (event.Begin (record { 0 = k }) start call.0) (in_world run.state.world (swept done.0)) (begins scripts run k start own.script call.0 is own.script_is call.1.next)
    (thread_begins (at_scripts scripts) run.entries run.state placed k start thread call.0 done.0 thread_is activity_is call.1.kind
    (λ goes. fits_call scripts run.entries k start call.0 own.script own.script_is (call.1.in_command goes)) done.1)

woken : (scripts : List (List Command)) (run : Run) (k start : ℕ) (thread : Thread) (w : Wait) → AtScripts scripts run → slice_get run.state.core.threads k ≡ Some thread
    → thread.activity ≡ activity.Waiting start w → status_at run.state k ≡ Some (status.Waiting start) → is_some (end_of_wait run.state.core thread.app w) ≡ true
    → Taken scripts run (turn.Actor k)
woken scripts run k start thread w placed thread_is activity_is is moves =
    let done : (outcome : Outcome) × (end_of_wait run.state.core thread.app w ≡ Some outcome) = some_of (end_of_wait run.state.core thread.app w) moves in
    let e : Event = event.Resume (record { 0 = k }) start in
    let fits : FitsAt scripts run.entries k (status.Waiting start) = subst (λ (a : Activity). FitsAt scripts run.entries k (status_of a)) activity_is (placed.all k thread thread_is).fits in
    taken_at scripts run (turn.Actor k) e (in_world run.state.world (resumed k done.0)) (resumes scripts run k start is)
    (thread_resumes (at_scripts scripts) run.entries run.state placed k start thread w done.0 thread_is activity_is done.1
    (fits_end scripts run.entries (entry_with e done.0.answer done.0.seqs) k start fits))

client_runs_on : (scripts : List (List Command)) (run : Run) (k start : ℕ) (client : ClientState) → AtScripts scripts run → slice_get run.state.world.clients k ≡ Some client
    → client.activity ≡ client_activity.Running start → status_at run.state (length run.state.core.threads + k) ≡ Some (status.Running start)
    → Taken scripts run (turn.Actor (length run.state.core.threads + k))
client_runs_on scripts run k start client placed client_is activity_is is =
    let actor : ℕ = length run.state.core.threads + k in
    let own : HasScript is_of_client scripts actor = (placed.clients k client client_is).known in
    let stand : Stand = stood own.script actor start run.entries in
    let fits : FitsAt scripts run.entries actor (status.Running start) =
    subst (λ (a : ClientActivity). FitsAt scripts run.entries actor (client_status a)) activity_is (placed.clients k client client_is).fits in
    let call : (asked : Call) × IsNext is_of_client own.script stand asked = client_next own.script stand own.callable (fits own.script own.script_is) in
    let done : (acted : Acted) × (ns_act run.state.core.clock k call.0 run.state.world ≡ Some acted) = acted_of run.state.core.clock k run.state.world call.0 call.1.kind in
    taken_at scripts run (turn.Actor actor) (event.Begin (record { 0 = actor }) start call.0) (beside_core run.state.core done.0)
    (begins scripts run actor start own.script call.0 is own.script_is call.1.next)
    (client_begins (at_scripts scripts) run.entries run.state placed k start client call.0 done.0 client_is activity_is call.1.kind
    (λ goes. fits_call scripts run.entries actor start call.0 own.script own.script_is (call.1.in_command goes)) done.1)

client_woken : (scripts : List (List Command)) (run : Run) (k start : ℕ) (client : ClientState) (wait : ClientWait) → AtScripts scripts run
    → slice_get run.state.world.clients k ≡ Some client → client.activity ≡ client_activity.Waiting start wait
    → status_at run.state (length run.state.core.threads + k) ≡ Some (status.Waiting start) → is_some (end_of_ns_wait run.state.core.clock wait (drained run.state.world)) ≡ true
    → Taken scripts run (turn.Actor (length run.state.core.threads + k))
client_woken scripts run k start client wait placed client_is activity_is is moves =
    let actor : ℕ = length run.state.core.threads + k in
    let done : (acted : Acted) × (end_of_ns_wait run.state.core.clock wait (drained run.state.world) ≡ Some acted) = some_of (end_of_ns_wait run.state.core.clock wait (drained run.state.world)) moves in
    let e : Event = event.Resume (record { 0 = actor }) start in
    let fits : FitsAt scripts run.entries actor (status.Waiting start) =
    subst (λ (a : ClientActivity). FitsAt scripts run.entries actor (client_status a)) activity_is (placed.clients k client client_is).fits in
    taken_at scripts run (turn.Actor actor) e (beside_core run.state.core (runs_again k done.0)) (resumes scripts run actor start is)
    (client_resumes (at_scripts scripts) run.entries run.state placed k start client wait done.0 client_is activity_is done.1
    (fits_end scripts run.entries (entry_with e done.0.answer no_seqs) actor start fits))

taken_by : (scripts : List (List Command)) (run : Run) (actor : ℕ) → AtScripts scripts run → Taking run.state actor → Taken scripts run (turn.Actor actor)
taken_by scripts run actor placed (runs thread start thread_is activity_is is) = begun scripts run actor start thread placed thread_is activity_is is
taken_by scripts run actor placed (wakes thread start w thread_is activity_is is moves) = woken scripts run actor start thread w placed thread_is activity_is is moves
taken_by scripts run actor placed (client_runs k client start actor_is client_is activity_is is) =
    subst (λ n. Taken scripts run (turn.Actor n)) (sym actor_is) (client_runs_on scripts run k start client placed client_is activity_is (ap (λ n. status_at run.state n) (sym actor_is) ∙ is))
taken_by scripts run actor placed (client_wakes k client start w actor_is client_is activity_is is moves) =
    subst (λ n. Taken scripts run (turn.Actor n)) (sym actor_is)
    (client_woken scripts run k start client w placed client_is activity_is (ap (λ n. status_at run.state n) (sym actor_is) ∙ is) moves)

pub actor_taken : (scripts : List (List Command)) (run : Run) (actor : ℕ) → AtScripts scripts run → takes_turn run.state actor ≡ true → Taken scripts run (turn.Actor actor)
actor_taken scripts run actor placed takes = taken_by scripts run actor placed (taking_by run.state actor (actor_of run.state actor) takes)

-- The device, where it has work.

device_by : (scripts : List (List Command)) (run : Run) (o : Option DeviceStep) → device_step run.state ≡ o → is_some o ≡ true → AtScripts scripts run → Taken scripts run turn.Device
unfolding event_of
device_by scripts run None is works placed = absurd (cc)
device_by scripts run (Some done) is works placed =
    taken_at scripts run turn.Device event.Device (device_stepped done) refl (device_turns (at_scripts scripts) run.entries run.state placed done is)

pub device_taken : (scripts : List (List Command)) (run : Run) → AtScripts scripts run → device_has_work run.state ≡ true → Taken scripts run turn.Device
unfolding device_has_work
device_taken scripts run placed works = device_by scripts run (device_step run.state) refl works placed

-- And Idle, where it is lawful.

pub idle_taken : (scripts : List (List Command)) (run : Run) → AtScripts scripts run → idle_lawful run.state ≡ true → Taken scripts run turn.Idle
unfolding event_of
idle_taken scripts run placed lawful = taken_at scripts run turn.Idle event.Idle (idle run.state) refl (idles (at_scripts scripts) run.entries run.state placed lawful)

kernel_by : (scripts : List (List Command)) (run : Run) (t : Turn) (works lawful : Bool) → device_has_work run.state ≡ works → idle_lawful run.state ≡ lawful → AtScripts scripts run
    → cond works (Some turn.Device) (cond lawful (Some turn.Idle) None) ≡ Some t → Taken scripts run t
kernel_by scripts run t true lawful works_is lawful_is placed is =
    subst (λ (u : Turn). Taken scripts run u) (let same : turn.Device ≡ t = cc in same) (device_taken scripts run placed works_is)
kernel_by scripts run t false true works_is lawful_is placed is =
    subst (λ (u : Turn). Taken scripts run u) (let same : turn.Idle ≡ t = cc in same) (idle_taken scripts run placed lawful_is)
kernel_by scripts run t false false works_is lawful_is placed is = absurd (cc)

pub kernel_taken : (scripts : List (List Command)) (run : Run) (t : Turn) → AtScripts scripts run → kernel_turn run.state ≡ Some t → Taken scripts run t
kernel_taken scripts run t placed turn_is = kernel_by scripts run t (device_has_work run.state) (idle_lawful run.state) refl refl placed turn_is

-- Whatever turn was taken, it was one of these.

none_of : {X : Type 0} (o : Option X) → is_some o ≡ false → o ≡ None
none_of None is = refl
none_of (Some x) is = absurd (cc)

not_resumed : (scripts : List (List Command)) (run : Run) (actor start : ℕ) → status_at run.state actor ≡ Some (status.Waiting start)
    → step run.state (event.Resume (record { 0 = actor }) start) ≡ None → run_turn step scripts run (turn.Actor actor) ≡ None
not_resumed scripts run actor start is stays =
    ap (λ (o : Option Event). run_event step run o) (resumes scripts run actor start is)
    ∙ ap (λ (o : Option Stepped). option_map (grown run (event.Resume (record { 0 = actor }) start)) o) stays

thread_not_taken : (scripts : List (List Command)) (run : Run) (k : ℕ) (thread : Thread) (a : Activity) → slice_get run.state.core.threads k ≡ Some thread → thread.activity ≡ a
    → status_at run.state k ≡ Some (status_of a) → takes_turn run.state k ≡ false → run_turn step scripts run (turn.Actor k) ≡ None
unfolding event_of
thread_not_taken scripts run k thread activity.Off thread_is a_is is never = rw is refl
thread_not_taken scripts run k thread (activity.Running start) thread_is a_is is never = absurd (cc (rw is at never))
thread_not_taken scripts run k thread (activity.Waiting start w) thread_is a_is is never =
    let stays : movable run.state k ≡ false = rw is at never in
    let no_end : is_some (end_of_wait run.state.core thread.app w) ≡ false = sym (movable_is run.state k start thread w thread_is a_is) ∙ stays in
    not_resumed scripts run k start is (stays_waiting run.state k start thread w thread_is a_is (none_of (end_of_wait run.state.core thread.app w) no_end))
thread_not_taken scripts run k thread (activity.Ended start) thread_is a_is is never = rw is refl

client_not_taken : (scripts : List (List Command)) (run : Run) (actor k : ℕ) (client : ClientState) (a : ClientActivity) → actor ≡ length run.state.core.threads + k
    → slice_get run.state.world.clients k ≡ Some client → client.activity ≡ a → status_at run.state actor ≡ Some (client_status a) → takes_turn run.state actor ≡ false
    → run_turn step scripts run (turn.Actor actor) ≡ None
unfolding event_of
client_not_taken scripts run actor k client (client_activity.Running start) actor_is client_is a_is is never = absurd (cc (rw is at never))
client_not_taken scripts run actor k client (client_activity.Waiting start w) actor_is client_is a_is is never =
    let stays : movable run.state actor ≡ false = rw is at never in
    let no_end : is_some (end_of_ns_wait run.state.core.clock w (drained run.state.world)) ≡ false =
    sym (client_movable_is run.state actor k start client w actor_is client_is a_is) ∙ stays in
    not_resumed scripts run actor start is
    (ap (λ n. step run.state (event.Resume (record { 0 = n }) start)) actor_is
    ∙ client_stays_waiting run.state k start client w client_is a_is (none_of (end_of_ns_wait run.state.core.clock w (drained run.state.world)) no_end))
client_not_taken scripts run actor k client (client_activity.Ended start) actor_is client_is a_is is never = rw is refl

not_taken : (scripts : List (List Command)) (run : Run) (actor : ℕ) → Actor run.state actor → takes_turn run.state actor ≡ false → run_turn step scripts run (turn.Actor actor) ≡ None
unfolding event_of
not_taken scripts run actor (is_thread thread thread_is is) never = thread_not_taken scripts run actor thread thread.activity thread_is refl is never
not_taken scripts run actor (is_client k client actor_is client_is is) never = client_not_taken scripts run actor k client client.activity actor_is client_is refl is never
not_taken scripts run actor (is_none is) never = rw is refl

same_taken : (scripts : List (List Command)) (run next : Run) (t : Turn) → Taken scripts run t → run_turn step scripts run t ≡ Some next → AtScripts scripts next
same_taken scripts run next t taken is =
    let t_is : run_turn step scripts run t ≡ Some taken.next = taken.took in
    subst (λ (r : Run). AtScripts scripts r) (let same : taken.next ≡ next = cc in same) taken.placed

actor_keeps : (scripts : List (List Command)) (run next : Run) (actor : ℕ) (takes : Bool) → takes_turn run.state actor ≡ takes → AtScripts scripts run
    → run_turn step scripts run (turn.Actor actor) ≡ Some next → AtScripts scripts next
actor_keeps scripts run next actor true takes placed is = same_taken scripts run next (turn.Actor actor) (actor_taken scripts run actor placed takes) is
actor_keeps scripts run next actor false never placed is =
    let none : run_turn step scripts run (turn.Actor actor) ≡ None = not_taken scripts run actor (actor_of run.state actor) never in
    absurd (cc)

no_device : (scripts : List (List Command)) (run : Run) → device_has_work run.state ≡ false → run_turn step scripts run turn.Device ≡ None
unfolding event_of step device_has_work
no_device scripts run rests =
    ap (λ (o : Option DeviceStep). option_map (grown run event.Device) (option_map device_stepped o)) (none_of (device_step run.state) rests)

device_turn_keeps : (scripts : List (List Command)) (run next : Run) (works : Bool) → device_has_work run.state ≡ works → AtScripts scripts run
    → run_turn step scripts run turn.Device ≡ Some next → AtScripts scripts next
device_turn_keeps scripts run next true works placed is = same_taken scripts run next turn.Device (device_taken scripts run placed works) is
device_turn_keeps scripts run next false rests placed is = let none : run_turn step scripts run turn.Device ≡ None = no_device scripts run rests in absurd (cc)

no_idle : (scripts : List (List Command)) (run : Run) → idle_lawful run.state ≡ false → run_turn step scripts run turn.Idle ≡ None
unfolding event_of step
no_idle scripts run is = rw is refl

idle_keeps : (scripts : List (List Command)) (run next : Run) (lawful : Bool) → idle_lawful run.state ≡ lawful → AtScripts scripts run → run_turn step scripts run turn.Idle ≡ Some next → AtScripts scripts next
idle_keeps scripts run next true lawful placed is = same_taken scripts run next turn.Idle (idle_taken scripts run placed lawful) is
idle_keeps scripts run next false never placed is = let none : run_turn step scripts run turn.Idle ≡ None = no_idle scripts run never in absurd (cc)

pub turn_keeps : (scripts : List (List Command)) (run next : Run) (t : Turn) → AtScripts scripts run → run_turn step scripts run t ≡ Some next → AtScripts scripts next
turn_keeps scripts run next (turn.Actor actor) placed is = actor_keeps scripts run next actor (takes_turn run.state actor) refl placed is
turn_keeps scripts run next turn.Device placed is = device_turn_keeps scripts run next (device_has_work run.state) refl placed is
turn_keeps scripts run next turn.Idle placed is = idle_keeps scripts run next (idle_lawful run.state) refl placed is
