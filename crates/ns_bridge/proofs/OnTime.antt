-- Each step leaves every deadline near, and so does the beginning.
use Rattle.std.proofs.Common.{◌≡◌, ℕ, ◌+◌, true, false, cond, List, [], ◌∷◌, ◌++◌, length, map, Option, Some, None, refl, sym, subst}
use Rattle.std.specs.List.{AllByRecursion, enumerate_from, flat_map}
use Rattle.std.specs.Option.{option_map}
use Rattle.kernel_values.specs.SceneLaw.{SceneValue}
use Rattle.kernel_values.specs.declared.entry.Entry.{Entry}
use Rattle.kernel_values.specs.declared.entry.Event.{Event}
use Rattle.kernel_values.specs.declared.entry.Event.TheVariants as event
use Rattle.kernel_values.specs.declared.reply.Answer.{Answer}
use Rattle.kernel_values.specs.declared.scene.App.{App}
use Rattle.kernel_values.specs.declared.scene.Client.{Client}
use Rattle.kernel_values.specs.declared.scene.Manifest.{Manifest}
use Rattle.kernel_values.specs.declared.state.Activity.TheVariants as activity
use Rattle.kernel_values.specs.declared.state.CoreState.{CoreState}
use Rattle.kernel_values.specs.declared.state.State.{State}
use Rattle.kernel_values.specs.declared.state.Thread.{Thread}
use Rattle.kernel_values.specs.declared.world.ClientState.{ClientState}
use Rattle.kernel_values.specs.declared.world.World.{World}
use Rattle.kernel_types.specs.CoreStep.{core_begin, core_resume}
use Rattle.kernel_types.specs.Device.{DeviceStep, device_step}
use Rattle.kernel_types.specs.History.{entry_of, next_state, state_or}
use Rattle.kernel_types.specs.Kernel.{Did, Refused}
use Rattle.kernel_types.specs.Opening.{opening, opening_activity, opening_client, opening_threads, without_clients}
use Rattle.kernel_types.specs.Outcome.{Outcome}
use Rattle.kernel_types.specs.Step.{Stepped, device_stepped, step, in_world}
use Rattle.kernel_types.specs.declared.kernel.StepRefused.{StepRefused}
use Rattle.kernel_types.proofs.Actors.{begin_of_thread, below_is_thread, resume_of_thread}
use Rattle.step_laws.proofs.Bridged.{DeviceKeepsIf, device_keeps}
use Rattle.ns_bridge.specs.Acts.{answered_if, client_acted}
use Rattle.ns_bridge.specs.Parts.{Normal}
use Rattle.ns_bridge.specs.Timely.{AreClientsInTime, AreInTime, IsClientInTime, IsInTime, IsOnTime, IsShortEvent, IsTimely}
use Rattle.ns_bridge.specs.Wholes.{IsOfThread}
use Rattle.ns_bridge.proofs.ClientTiming.{clients_stay_in_time}
use Rattle.ns_bridge.proofs.Timing.{KeepsIf, begin_keeps, of_device, resume_keeps}

-- threads

abbrev StaysOnTime : ℕ → Option Stepped → Type 0
StaysOnTime clock None = Unit {0}
StaysOnTime clock (Some r) = IsTimely clock r.state.core

timely : (c : CoreState) (clients : List ClientState) → IsOnTime c clients → IsTimely c.clock c
timely c clients time = record { clock_is = refl; threads = time.threads }

on_time : (clock : ℕ) (c : CoreState) (clients : List ClientState) → IsTimely clock c → AreClientsInTime clock clients → IsOnTime c clients
on_time clock c clients t k = record {
  threads = subst (λ (n : ℕ). AreInTime n c.threads) (sym t.clock_is) t.threads;
  clients = subst (λ (n : ℕ). AreClientsInTime n clients) (sym t.clock_is) k;
}

in_world_stays : (clock : ℕ) (w : World) (o : Option Outcome) → KeepsIf clock o → StaysOnTime clock (option_map (in_world w) o)
in_world_stays clock w None keeps = tt
in_world_stays clock w (Some outcome) keeps = keeps.kept

thread_stays : (s : State) (e : Event) → IsOfThread (length s.core.threads) e → IsShortEvent e → IsTimely s.core.clock s.core → StaysOnTime s.core.clock (step s e)
unfolding step
thread_stays s (event.Begin actor start asked) of short t =
    subst (λ (o : Option Stepped). StaysOnTime s.core.clock o) (sym (begin_of_thread s actor.0 start asked (below_is_thread s actor.0 of)))
    (in_world_stays s.core.clock s.world (core_begin s.core actor.0 start asked) (begin_keeps s.core.clock s.core t actor.0 start asked short))
thread_stays s (event.Resume actor start) of short t =
    subst (λ (o : Option Stepped). StaysOnTime s.core.clock o) (sym (resume_of_thread s actor.0 start (below_is_thread s actor.0 of)))
    (in_world_stays s.core.clock s.world (core_resume s.core actor.0 start) (resume_keeps s.core.clock s.core t actor.0 start))
thread_stays s event.Device of short t = absurd of
thread_stays s event.Idle of short t = absurd of

stayed : (clock : ℕ) (s : State) (e : Event) (o : Option Stepped) (entry : Entry) → option_map (entry_of e) o ≡ Some entry → StaysOnTime clock o → IsTimely clock (state_or s o).core
stayed clock s e None entry is keeps = absurd (cc)
stayed clock s e (Some r) entry is keeps = keeps

pub thread_on_time : (e : Event) (s t : State) (core_made core_remade : ℕ) (entry : Entry) (clients : List ClientState) → IsOfThread (length s.core.threads) e → IsShortEvent e
    → Did e s t core_made core_remade entry → IsOnTime s.core clients → IsOnTime t.core clients
thread_on_time e s t core_made core_remade entry clients of short did time =
    let next : IsTimely s.core.clock (next_state s e).core =
    stayed s.core.clock s e (step s e) entry did.entry_is (thread_stays s e of short (timely s.core clients time)) in
    on_time s.core.clock t.core clients (subst (λ (x : State). IsTimely s.core.clock x.core) (sym did.state_is) next) time.clients

pub refused_on_time : (e : Event) (s t : State) (core_made core_remade : ℕ) (refused : StepRefused) (clients : List ClientState) → Refused e s t core_made core_remade refused
    → IsOnTime s.core clients → IsOnTime t.core clients
refused_on_time e s t core_made core_remade refused clients r time = subst (λ (x : State). IsOnTime x.core clients) (sym r.state_is) time

-- clients

pub client_on_time : (client : ℕ) (e : Event) (c : CoreState) (n after : Normal) (answer : Answer) → answered_if (Some answer) after ≡ client_acted c.clock client e n → IsShortEvent e
    → IsOnTime c n.clients → IsOnTime c after.clients
client_on_time client e c n after answer done short time = record {
  threads = time.threads;
  clients = clients_stay_in_time c.clock client e n after answer done short time.clients;
}

-- the device

device_stays : (s : State) (t : IsTimely s.core.clock s.core) (o : Option DeviceStep) → DeviceKeepsIf s (of_device s.core.clock s.core t) o → StaysOnTime s.core.clock (option_map device_stepped o)
unfolding of_device
device_stays s t None keeps = tt
device_stays s t (Some done) keeps = keeps.kept

pub device_leaves : (s : State) (r : Stepped) (clients : List ClientState) → IsOnTime s.core clients → step s event.Device ≡ Some r → IsOnTime r.state.core clients
unfolding step
device_leaves s r clients time is =
    let t : IsTimely s.core.clock s.core = timely s.core clients time in
    let stays : StaysOnTime s.core.clock (step s event.Device) = device_stays s t (device_step s) (device_keeps s (of_device s.core.clock s.core t)) in
    on_time s.core.clock r.state.core clients (subst (λ (o : Option Stepped). StaysOnTime s.core.clock o) is stays) time.clients

-- the beginning

opening_in_time : (manifest : Manifest) → IsInTime 0 (opening_activity manifest)
opening_in_time manifest = elim manifest.deferred as (λ b. IsInTime 0 (cond b activity.Off (activity.Running 1))) [ true ↦ tt | false ↦ tt ]

all_of : {X : Type 0} (P : X → Type 0) (xs ys : List X) → AllByRecursion P xs → AllByRecursion P ys → AllByRecursion P (xs ++ ys)
all_of P [] ys k m = m
all_of P (x ∷ xs) ys k m = (k.0, all_of P xs ys k.1 m)

all_alike : {X Y : Type 0} (P : Y → Type 0) (f : X → Y) → ((x : X) → P (f x)) → (xs : List X) → AllByRecursion P (map f xs)
all_alike P f holds [] = tt
all_alike P f holds (x ∷ xs) = (holds x, all_alike P f holds xs)

threads_begin : (place : ℕ) (apps : List App) → AreInTime 0 (flat_map opening_threads (enumerate_from place apps))
threads_begin place [] = tt
threads_begin place (app ∷ apps) =
    all_of (λ (thread : Thread). IsInTime 0 thread.activity) (opening_threads (place, app)) (flat_map opening_threads (enumerate_from (place + 1) apps))
    (all_alike (λ (thread : Thread). IsInTime 0 thread.activity) _ (λ script. opening_in_time app.manifest) app.threads) (threads_begin (place + 1) apps)

clients_begin : (clients : List Client) → AreClientsInTime 0 (map opening_client clients)
clients_begin clients = all_alike (λ (client : ClientState). IsClientInTime 0 client.activity) opening_client (λ client. tt) clients

core_begins : (scene : SceneValue) (clients : List ClientState) → AreClientsInTime 0 clients → IsOnTime (opening (without_clients scene)).core clients
unfolding opening
core_begins scene clients k = record { threads = threads_begin 0 scene.apps; clients = k }

pub opening_on_time : (scene : SceneValue) (s : State) (clients : List ClientState) → s ≡ opening (without_clients scene) → clients ≡ map opening_client scene.clients → IsOnTime s.core clients
opening_on_time scene s clients is same =
    subst (λ (x : State). IsOnTime x.core clients) (sym is)
    (core_begins scene clients (subst (λ (cs : List ClientState). AreClientsInTime 0 cs) (sym same) (clients_begin scene.clients)))
