-- In the state in which a scene begins, every thread and every client stands at its beginning, and at its script.
use Rattle.std.proofs.Common.{◌≡◌, ℕ, zero, suc, ◌+◌, ◌<◌, ◌≤◌, Bool, true, false, cond, List, [], ◌∷◌, ◌++◌, length, map, Some, refl, ap, sym, ◌∙◌, subst, arith, inl, inr, length-append}
use Rattle.std.proofs.lemmas.List.{length-map}
use Rattle.std.specs.Prelude.{◌⊎◌, slice_get, ◌&&◌}
use Rattle.std.specs.List.{flat_map, enumerate_from, list_all}
use Rattle.kernel_values.specs.Calls.{can_be_spelled, is_client_call, is_thread_call, is_of_client, is_of_thread}
use Rattle.kernel_values.specs.SceneLaw.{SceneValue, IsLawfulScene, scripts_of, is_lawful_app, is_lawful_client, is_lawful_client_command, is_lawful_thread_command}
use Rattle.kernel_values.specs.Words.{is_name}
use Rattle.kernel_values.specs.declared.scene.App.{App}
use Rattle.kernel_values.specs.declared.scene.Client.{Client}
use Rattle.kernel_values.specs.declared.scene.Manifest.{Manifest}
use Rattle.kernel_values.specs.declared.script.Command.{Command}
use Rattle.kernel_values.specs.declared.state.Activity.{Activity}
use Rattle.kernel_values.specs.declared.state.Activity.TheVariants as activity
use Rattle.kernel_values.specs.declared.state.Application.{Application}
use Rattle.kernel_values.specs.declared.state.Thread.{Thread}
use Rattle.kernel_values.specs.declared.world.ClientState.{ClientState}
use Rattle.kernel_types.specs.Opening.{opening, opening_app, opening_starts, opening_activity, opening_threads, opening_client}
use Rattle.kernel_types.specs.CoreStep.{status_of}
use Rattle.kernel_types.specs.Turns.{opening_run}
use Rattle.kernel_types.specs.Whole.{answers_in}
use Rattle.step_laws.proofs.Leaving.{starts_of}
use Rattle.run_laws.proofs.Callers.{by_client, by_thread}
use Rattle.run_laws.proofs.Calling.{IsCallable}
use Rattle.run_laws.proofs.ClientPlaces.{ClientStands}
use Rattle.run_laws.proofs.Everyone.{Everyone, get_behind}
use Rattle.run_laws.proofs.Places.{Stands, start_of, get_map, map_get}
use Rattle.run_laws.proofs.Scripted.{at_scripts}
use Rattle.run_laws.proofs.Standings.{Standings}
use Rattle.run_laws.proofs.Turning.{AtScripts}

-- The commands of a lawful scene's threads are system calls.

first_of : (a b : Bool) → (a && b) ≡ true → a ≡ true
first_of true b h = refl
first_of false b h = absurd (cc)

second_of : (a b : Bool) → (a && b) ≡ true → b ≡ true
second_of true b h = h
second_of false b h = absurd (cc)

all_at : {A : Type 0} (p : A → Bool) (xs : List A) (k : ℕ) (x : A) → list_all p xs ≡ true → slice_get xs k ≡ Some x → p x ≡ true
all_at p [] k x h is = absurd (cc)
all_at p (first ∷ xs) zero x h is = ap p (let same : x ≡ first = cc in same) ∙ first_of (p first) (list_all p xs) h
all_at p (first ∷ xs) (suc k) x h is = all_at p xs k x (second_of (p first) (list_all p xs) h) is

lawful_scripts : (app : App) → is_lawful_app app ≡ true → list_all (list_all is_lawful_thread_command) app.threads ≡ true
lawful_scripts app lawful = second_of _ _ (first_of _ _ (first_of _ _ lawful))

callable : (app : App) (k : ℕ) (script : List Command) → is_lawful_app app ≡ true → slice_get app.threads k ≡ Some script → IsCallable is_of_thread script
callable app k script lawful is place command command_is =
    let lawful_script : list_all is_lawful_thread_command script ≡ true = all_at (list_all is_lawful_thread_command) app.threads k script (lawful_scripts app lawful) is in
    let lawful_command : is_lawful_thread_command command ≡ true = all_at is_lawful_thread_command script place command lawful_script command_is in
    by_thread command.call (first_of (is_thread_call command.call) (can_be_spelled command.call) lawful_command)

-- Each thread is of an application of the scene, and has one of its scripts.

pub record Opened (place : ℕ) (apps : List App) (k : ℕ) (thread : Thread) : Type 0 where
  pub at : ℕ
  pub app : App
  pub script : List Command
  pub app_is : slice_get apps at ≡ Some app
  pub place_is : thread.app ≡ place + at
  pub activity_is : thread.activity ≡ opening_activity app.manifest
  pub script_is : slice_get (flat_map (λ (a : App). a.threads) apps) k ≡ Some script
  -- among those of its application
  pub own : ℕ
  pub own_is : slice_get app.threads own ≡ Some script

-- an item of a list in two parts, and one at the same place beside it
part_of : {X Y : Type 0} (f : X → Y) (xs others : List X) (more : List Y) (k : ℕ) (y : Y) → slice_get (map f xs ++ more) k ≡ Some y
    → ((x : X) × (slice_get (xs ++ others) k ≡ Some x) × (slice_get xs k ≡ Some x) × (f x ≡ y))
    ⊎ ((j : ℕ) × (slice_get more j ≡ Some y) × ((x : X) → slice_get others j ≡ Some x → slice_get (xs ++ others) k ≡ Some x))
part_of f [] others more k y is = inr (k, is, λ x h. h)
part_of f (x ∷ xs) others more zero y is = inl (x, refl, refl, let same : f x ≡ y = cc in same)
part_of f (x ∷ xs) others more (suc k) y is = part_of f xs others more k y is

opened : (place : ℕ) (apps : List App) (k : ℕ) (thread : Thread) → slice_get (flat_map opening_threads (enumerate_from place apps)) k ≡ Some thread
    → Opened place apps k thread
opened place [] k thread is = absurd (cc)
opened place (app ∷ apps) k thread is =
    let begins : List Command → Thread = λ script. record { app = place; activity = opening_activity app.manifest } in
    elim (part_of begins app.threads (flat_map (λ (a : App). a.threads) apps) (flat_map opening_threads (enumerate_from (place + 1) apps)) k thread is) [
      | inl p ↦ record {
        at = 0;
        app = app;
        script = p.0;
        app_is = refl;
        place_is = omega (arith, ap (λ (t : Thread). t.app) p.3);
        activity_is = ap (λ (t : Thread). t.activity) (sym p.3);
        script_is = p.1;
        own = k;
        own_is = p.2;
      }
      | inr p ↦ let rest : Opened (place + 1) apps p.0 thread = opened (place + 1) apps p.0 thread p.1 in record {
        at = suc rest.at;
        app = rest.app;
        script = rest.script;
        app_is = rest.app_is;
        place_is = omega (arith, rest.place_is);
        activity_is = rest.activity_is;
        script_is = p.2 rest.script rest.script_is;
        own = rest.own;
        own_is = rest.own_is;
      }
    ]

abbrev pub threads_from : ℕ → List App → List Thread
threads_from place apps = flat_map opening_threads (enumerate_from place apps)

abbrev pub thread_scripts : List App → List (List Command)
thread_scripts apps = flat_map (λ (a : App). a.threads) apps

-- as many threads as scripts of threads
pub threads_many : (place : ℕ) (apps : List App) → length (threads_from place apps) ≡ length (thread_scripts apps)
threads_many place [] = refl
threads_many place (app ∷ apps) =
    let own : length (opening_threads (place, app)) ≡ length app.threads = length-map app.threads _ in
    length-append (opening_threads (place, app)) (threads_from (place + 1) apps)
    ∙ ((ap (λ n. n + length (threads_from (place + 1) apps)) own ∙ ap (λ n. length app.threads + n) (threads_many (place + 1) apps))
    ∙ sym (length-append app.threads (thread_scripts apps)))

start_opened : (manifest : Manifest) → start_of (opening_activity manifest) ≤ opening_starts manifest
start_opened manifest = elim manifest.deferred as (λ b. start_of (cond b activity.Off (activity.Running 1)) ≤ cond b 0 1) [ true ↦ omega arith | false ↦ omega arith ]

module _ (S : Standings) where
  fits_opened : (k : ℕ) (manifest : Manifest) → S.unused [] k 1 → S.fits [] k (status_of (opening_activity manifest))
  fits_opened k manifest none_yet = elim manifest.deferred as (λ b. S.fits [] k (status_of (cond b activity.Off (activity.Running 1)))) [ true ↦ S.off [] k | false ↦ S.begins [] k 1 none_yet ]

  stands_opened : (apps : List App) (k : ℕ) (thread : Thread) → S.thread k → ((s : ℕ) → 0 < s → S.unused [] k s) → Opened 0 apps k thread
      → Stands S [] (starts_of (map opening_app apps)) k thread
  stands_opened apps k thread known unused o =
      let place_is : thread.app ≡ o.at = omega (arith, o.place_is) in
      let starts_are : slice_get (starts_of (map opening_app apps)) o.at ≡ Some (opening_starts o.app.manifest) =
      get_map (λ (a : Application). a.starts) (map opening_app apps) o.at (opening_app o.app) (get_map opening_app apps o.at o.app o.app_is) in
      let within : (n : ℕ) → slice_get (starts_of (map opening_app apps)) thread.app ≡ Some n → start_of thread.activity ≤ n =
      λ n n_is.
      let here : slice_get (starts_of (map opening_app apps)) o.at ≡ Some n = ap (λ m. slice_get (starts_of (map opening_app apps)) m) (sym place_is) ∙ n_is in
      let same : opening_starts o.app.manifest ≡ n = cc in
      subst (λ m. start_of thread.activity ≤ m) same (subst (λ (a : Activity). start_of a ≤ opening_starts o.app.manifest) (sym o.activity_is) (start_opened o.app.manifest)) in
      record {
        known = record { bound = within; later = λ n s n_is past. unused s (omega (arith, past)); thread = known };
        fits = subst (λ (a : Activity). S.fits [] k (status_of a)) (sym o.activity_is) (fits_opened k o.app.manifest (unused 1 (omega arith)));
      }

  -- a scene begins with everyone at the beginning
  pub everyone_opened : (scene : SceneValue) → ((k : ℕ) (thread : Thread) → Opened 0 scene.apps k thread → S.thread k)
      → ((k : ℕ) (client : Client) → slice_get scene.clients k ≡ Some client → S.client (length (threads_from 0 scene.apps) + k))
      → ((k s : ℕ) → 0 < s → S.unused [] k s) → Everyone S [] (opening scene)
  unfolding opening
  everyone_opened scene thread client unused = record {
    all = λ k t is. let o : Opened 0 scene.apps k t = opened 0 scene.apps k t is in stands_opened scene.apps k t (thread k t o) (unused k) o;
    clients = λ k c is.
        let from : (x : Client) × (slice_get scene.clients k ≡ Some x) × (opening_client x ≡ c) = map_get opening_client scene.clients k c is in
        let actor : ℕ = length (threads_from 0 scene.apps) + k in
        subst (λ (x : ClientState). ClientStands S [] actor x.activity) from.2 (record { known = client k from.0 from.1; fits = S.begins [] actor 1 (unused actor 1 (omega arith)) });
  }

-- Each client stands behind the threads, and has its script.

client_callable : (client : Client) → is_lawful_client client ≡ true → IsCallable is_of_client client.script
client_callable client lawful place command is =
    let lawful_script : list_all is_lawful_client_command client.script ≡ true = second_of (is_name client.name) (list_all is_lawful_client_command client.script) lawful in
    let lawful_command : is_lawful_client_command command ≡ true = all_at is_lawful_client_command client.script place command lawful_script is in
    by_client command.call (first_of (is_client_call command.call) (can_be_spelled command.call) lawful_command)

get_front : {X : Type 0} (xs more : List X) (k : ℕ) (x : X) → slice_get xs k ≡ Some x → slice_get (xs ++ more) k ≡ Some x
get_front [] more k x is = absurd (cc)
get_front (first ∷ xs) more zero x is = is
get_front (first ∷ xs) more (suc k) x is = get_front xs more k x is

none_before : (k start : ℕ) → answers_in k start [] ≡ []
unfolding answers_in
none_before k start = refl

pub placed_at_opening : (scene : SceneValue) → IsLawfulScene scene → AtScripts (scripts_of scene) (opening_run scene)
placed_at_opening scene lawful =
    let clients : List (List Command) = map (λ (c : Client). c.script) scene.clients in
    everyone_opened (at_scripts (scripts_of scene)) scene
    (λ k thread o. record {
      script = o.script;
      script_is = get_front (thread_scripts scene.apps) clients k o.script o.script_is;
      callable = callable o.app o.own o.script (all_at is_lawful_app scene.apps o.at o.app lawful.apps o.app_is) o.own_is;
    })
    (λ k client is. record {
      script = client.script;
      script_is = ap (λ n. slice_get (scripts_of scene) (n + k)) (threads_many 0 scene.apps)
          ∙ (get_behind (thread_scripts scene.apps) clients k ∙ get_map (λ (c : Client). c.script) scene.clients k client is);
      callable = client_callable client (all_at is_lawful_client scene.clients k client lawful.clients is);
    })
    (λ k s past. none_before k s)
