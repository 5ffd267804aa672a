-- A lawful event's actor is one of the scene, in the start that the event tells.
use Rattle.std.proofs.Common.{◌≡◌, ◌<◌, ℕ, zero, suc, ◌+◌, Bool, true, false, cond, List, [], ◌∷◌, length, map, Option, Some, None, refl, sym, ap, ◌∙◌, arith, length-append}
use Rattle.std.proofs.lemmas.List.{length-map}
use Rattle.std.proofs.lemmas.Option.{slice_get_within}
use Rattle.std.specs.Prelude.{slice_get}
use Rattle.std.specs.List.{flat_map, enumerate_from, range_with_len}
use Rattle.std.specs.Option.{option_map}
use Rattle.kernel_values.specs.SceneLaw.{SceneValue, scripts_of}
use Rattle.kernel_values.specs.declared.call.Call.{Call}
use Rattle.kernel_values.specs.declared.entry.Entry.{Entry}
use Rattle.kernel_values.specs.declared.entry.Event.{Event}
use Rattle.kernel_values.specs.declared.entry.Event.TheVariants as event
use Rattle.kernel_values.specs.declared.scene.App.{App}
use Rattle.kernel_values.specs.declared.scene.Client.{Client}
use Rattle.kernel_values.specs.declared.script.Command.{Command}
use Rattle.kernel_values.specs.declared.world.ClientState.{ClientState}
use Rattle.kernel_values.specs.declared.state.State.{State}
use Rattle.kernel_values.specs.declared.state.Thread.{Thread}
use Rattle.kernel_values.specs.declared.entry.ActorStatus.{ActorStatus}
use Rattle.kernel_values.specs.declared.entry.ActorStatus.TheVariants as status
use Rattle.kernel_types.specs.History.{step_entry, entry_of, next_state, state_or}
use Rattle.kernel_types.specs.Opening.{opening, opening_threads, opening_activity, opening_client}
use Rattle.kernel_types.specs.Facts.{status_at}
use Rattle.kernel_types.specs.Step.{Stepped, step, statuses}
use Rattle.kernel_types.proofs.Actors.{begin_is_of_running, resume_is_of_waiting}
use Rattle.kernel_laws.specs.Actors.{HasSameActors, kinds}
use Rattle.kernel_laws.proofs.SameActors.{one_status_each, steps_keep}
use Rattle.report_text.specs.Names.{actor_names, thread_names, thread_name}

-- the start by which an actor runs or waits
abbrev start_in : Option ActorStatus → Option ℕ
start_in (Some (status.Running start)) = Some start
start_in (Some (status.Waiting start)) = Some start
start_in other = None

-- the actor runs or waits, by this start
pub record IsActive (s : State) (actor start : ℕ) : Type 0 where
  pub start_is : start_in (status_at s actor) ≡ Some start

mapped : {X Y : Type 0} (f : X → Y) (o : Option X) (y : Y) → option_map f o ≡ Some y → (x : X) × (o ≡ Some x)
mapped f None y h = absurd (cc)
mapped f (Some x) y h = (x, refl)

-- the step that an entry is of
pub stepped : (s : State) (e : Event) (entry : Entry) → step_entry s e ≡ Some entry → (r : Stepped) × (step s e ≡ Some r)
stepped s e entry h = mapped (entry_of e) (step s e) entry h

pub begins : (s : State) (actor start : ℕ) (asked : Call) (entry : Entry) → step_entry s (event.Begin (record { 0 = actor }) start asked) ≡ Some entry → IsActive s actor start
unfolding step
begins s actor start asked entry h =
    let found : (r : Stepped) × (step s (event.Begin (record { 0 = actor }) start asked) ≡ Some r) = stepped s (event.Begin (record { 0 = actor }) start asked) entry h in
    record { start_is = ap start_in (begin_is_of_running s actor start asked found.0 found.1) }

pub resumes : (s : State) (actor start : ℕ) (entry : Entry) → step_entry s (event.Resume (record { 0 = actor }) start) ≡ Some entry → IsActive s actor start
unfolding step
resumes s actor start entry h =
    let found : (r : Stepped) × (step s (event.Resume (record { 0 = actor }) start) ≡ Some r) = stepped s (event.Resume (record { 0 = actor }) start) entry h in
    record { start_is = ap start_in (resume_is_of_waiting s actor start found.0 found.1) }

-- an actor is in one start at a time
pub start_same : (s : State) (actor one other : ℕ) → IsActive s actor one → IsActive s actor other → one ≡ other
start_same s actor one other p q = let starts : Some one ≡ Some other = sym p.start_is ∙ q.start_is in cc

-- How many actors there are.

pub IsOfScene : ℕ → State → Type 0
IsOfScene count s = length (kinds s) ≡ count

started_within : (statuses : List ActorStatus) (actor start : ℕ) (o : Option ActorStatus) → slice_get statuses actor ≡ o → start_in o ≡ Some start → actor < length statuses
started_within statuses actor start None o_is is = absurd (cc)
started_within statuses actor start (Some status) o_is is = slice_get_within statuses actor status o_is

pub actor_below : (count : ℕ) (s : State) (actor start : ℕ) → IsOfScene count s → IsActive s actor start → actor < count
unfolding IsOfScene
actor_below count s actor start of active =
    omega (arith, of, one_status_each s, started_within (statuses s) actor start (status_at s actor) refl active.start_is)

next_of_scene : (count : ℕ) (s : State) (o : Option Stepped) → ((r : Stepped) → o ≡ Some r → HasSameActors s r.state) → IsOfScene count s → IsOfScene count (state_or s o)
unfolding IsOfScene
next_of_scene count s None keeps of = of
next_of_scene count s (Some stepped) keeps of = ap length (keeps stepped refl).kinds ∙ of

pub step_of_scene : (count : ℕ) (s : State) (e : Event) → IsOfScene count s → IsOfScene count (next_state s e)
step_of_scene count s e of = next_of_scene count s (step s e) (steps_keep s e) of

length_range : (k n : ℕ) → length (range_with_len k n) ≡ n
length_range k zero = refl
length_range k (suc n) = omega (arith, length_range (k + 1) n)

thread_count : (place : ℕ) (apps : List App) → length (flat_map opening_threads (enumerate_from place apps)) ≡ length (flat_map thread_names apps)
thread_count place [] = refl
thread_count place (app ∷ apps) =
    let begins : List Command → Thread = λ script. record { app = place; activity = opening_activity app.manifest } in
    omega (
      arith,
      thread_count (place + 1) apps,
      length-append (map begins app.threads) (flat_map opening_threads (enumerate_from (place + 1) apps)),
      length-map app.threads begins,
      length-append (thread_names app) (flat_map thread_names apps),
      length-map (range_with_len 0 (length app.threads)) (thread_name app.name),
      length_range 0 (length app.threads),
    )

pub opening_of_scene : (scene : SceneValue) → IsOfScene (length (actor_names scene)) (opening scene)
unfolding IsOfScene opening actor_names
opening_of_scene scene =
    let k : Thread → Option ℕ = λ thread. Some thread.app in
    let n : ClientState → Option ℕ = λ client. None in
    let name : Client → List ℕ = λ client. client.name in
    omega (
      arith,
      thread_count 0 scene.apps,
      length-append (map k (opening scene).core.threads) (map n (opening scene).world.clients),
      length-map (opening scene).core.threads k,
      length-map (opening scene).world.clients n,
      length-map scene.clients opening_client,
      length-append (flat_map thread_names scene.apps) (map name scene.clients),
      length-map scene.clients name,
    )

script_count : (apps : List App) → length (flat_map (λ (app : App). app.threads) apps) ≡ length (flat_map thread_names apps)
script_count [] = refl
script_count (app ∷ apps) = omega (
  arith,
  script_count apps,
  length-append app.threads (flat_map (λ (a : App). a.threads) apps),
  length-append (thread_names app) (flat_map thread_names apps),
  length-map (range_with_len 0 (length app.threads)) (thread_name app.name),
  length_range 0 (length app.threads),
)

-- each actor has a script
pub scripts_of_scene : (scene : SceneValue) → length (scripts_of scene) ≡ length (actor_names scene)
unfolding actor_names
scripts_of_scene scene =
    let name : Client → List ℕ = λ client. client.name in
    let script : Client → List Command = λ client. client.script in
    omega (
      arith,
      script_count scene.apps,
      length-append (flat_map (λ (app : App). app.threads) scene.apps) (map script scene.clients),
      length-map scene.clients script,
      length-append (flat_map thread_names scene.apps) (map name scene.clients),
      length-map scene.clients name,
    )
