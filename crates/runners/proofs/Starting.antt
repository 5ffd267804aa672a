-- The places of a scene's actors at its beginning.
use Rattle.std.proofs.Common.{◌≡◌, ℕ, zero, suc, ◌+◌, ◌*◌, ◌≤◌, Bool, true, false, List, [], ◌∷◌, length, map, Some, refl, ap, sym, ◌∙◌, subst, arith, length-append, inl}
use Rattle.std.specs.Prelude.{slice_get, nat_le, ◌&&◌}
use Rattle.std.specs.List.{flat_map, enumerate_from, list_all}
use Rattle.std.proofs.lemmas.List.{length-map}
use Rattle.std.proofs.lemmas.Bool.Decides.{nat_tests}
use Rattle.kernel_values.specs.declared.entry.Entry.{Entry}
use Rattle.kernel_values.specs.declared.scene.App.{App}
use Rattle.kernel_values.specs.declared.script.Command.{Command}
use Rattle.kernel_values.specs.declared.state.State.{State}
use Rattle.kernel_values.specs.SceneLaw.{SceneValue, IsLawfulScene, scripts_of, is_lawful_app}
use Rattle.kernel_types.specs.History.{state_after}
use Rattle.kernel_types.specs.Opening.{opening, opening_threads}
use Rattle.kernel_types.specs.Step.{statuses}
use Rattle.kernel_types.specs.Turns.{history_limit, ran, run_by}
use Rattle.kernel_log.specs.Logs.{Log, state_of}
use Rattle.runners.specs.declared.place.Place.{Place}
use Rattle.runners.specs.Places.{PlaceFits, Sound, first_place, most_actors}
use Rattle.run_laws.proofs.Opening.{threads_many}
use Rattle.runners.proofs.Fitting.{fits_first}

-- as many actors as scripts
pub actors_many : (scene : SceneValue) → length (statuses (opening scene)) ≡ length (scripts_of scene)
unfolding statuses opening
actors_many scene =
    let threads : length (flat_map opening_threads (enumerate_from 0 scene.apps)) ≡ length (flat_map (λ app. app.threads) scene.apps) = threads_many 0 scene.apps in
    simp (length-append, length-map) (ap (λ n. n + length scene.clients) threads)

first_of_both : (a b : Bool) → (a && b) ≡ true → a ≡ true
first_of_both true b h = refl
first_of_both false b h = absurd (cc)

second_of_both : (a b : Bool) → (a && b) ≡ true → b ≡ true
second_of_both true b h = h
second_of_both false b h = absurd (cc)

at_most_four : (app : App) → is_lawful_app app ≡ true → nat_le (length app.threads) 4 ≡ true
at_most_four app lawful = second_of_both _ _ (first_of_both _ _ (first_of_both _ _ (first_of_both _ _ lawful)))

few_threads_in : (app : App) → is_lawful_app app ≡ true → length app.threads ≤ 4
few_threads_in app lawful = let four : nat_le (length app.threads) 4 ≡ true = at_most_four app lawful in grind (arith, nat_tests)

few_threads : (apps : List App) → list_all is_lawful_app apps ≡ true → length (flat_map (λ app. app.threads) apps) ≤ 4 * length apps
few_threads [] h = omega arith
few_threads (app ∷ apps) h =
    let one : is_lawful_app app ≡ true = first_of_both (is_lawful_app app) (list_all is_lawful_app apps) h in
    let rest : list_all is_lawful_app apps ≡ true = second_of_both (is_lawful_app app) (list_all is_lawful_app apps) h in
    omega (arith, few_threads_in app one, few_threads apps rest, length-append app.threads (flat_map (λ a. a.threads) apps))

pub few_scripts : (scene : SceneValue) → IsLawfulScene scene → length (scripts_of scene) ≤ most_actors
few_scripts scene lawful =
    let apps : length scene.apps ≤ 32 = grind (arith, nat_tests, lawful.few_apps) in
    let clients : length scene.clients ≤ 8 = grind (arith, nat_tests, lawful.few_clients) in
    omega (arith, apps, clients, few_threads scene.apps lawful.apps, length-append (flat_map (λ app. app.threads) scene.apps) (map (λ client. client.script) scene.clients), length-map scene.clients (λ client. client.script))

-- each actor at its first place

pub get_places : (scripts : List (List Command)) (number : ℕ) (script : List Command) → slice_get scripts number ≡ Some script → slice_get (map first_place scripts) number ≡ Some (first_place script)
get_places [] number script is = absurd (cc)
get_places (first ∷ scripts) zero script is = let same : first ≡ script = cc in ap (λ (s : List Command). Some (first_place s)) same
get_places (first ∷ scripts) (suc number) script is = get_places scripts number script is

pub first_start : (scripts : List (List Command)) (number : ℕ) (place : Place) → slice_get (map first_place scripts) number ≡ Some place → place.actor.start ≡ 1
first_start [] number place is = absurd (cc)
first_start (first ∷ scripts) zero place is = let same : first_place first ≡ place = cc in ap (λ (p : Place). p.actor.start) (sym same)
first_start (first ∷ scripts) (suc number) place is = first_start scripts number place is

pub sound_new : (scene : SceneValue) (scripts : List (List Command)) (places : List Place) (log : Log) → IsLawfulScene scene → scripts ≡ scripts_of scene → length scripts ≤ most_actors → places ≡ map first_place scripts
    → log.origin.state ≡ opening scene → log.origin.made ≡ 0 → log.journal.entries ≡ [] → Sound scripts places log
unfolding history_limit run_by
sound_new scene scripts places log lawful scripts_is few places_is state_is made_is none_yet =
    let state : state_of log ≡ opening scene = ap (λ es. state_after log.origin.state es) none_yet ∙ state_is in
    record {
      kept = λ number script script_is. (
        first_place script,
        ap (λ (ps : List Place). slice_get ps number) places_is ∙ get_places scripts number script script_is,
        subst (λ es. PlaceFits number script es (first_place script)) (sym none_yet) (fits_first number script),
      );
      ran = λ number place place_is. inl (first_start scripts number place (sym (ap (λ (ps : List Place). slice_get ps number) places_is) ∙ place_is));
      of_scene = record {
        scene = scene;
        lawful = lawful;
        scripts_are = scripts_is;
        state_is = state_is;
        turns = [];
        run_is = ap (λ (s : State). ran (record { state = s; entries = [] })) (sym state)
            ∙ ap (λ (es : List Entry). ran (record { state = state_of log; entries = es })) (sym none_yet);
      };
      many = ap length places_is ∙ length-map scripts first_place;
      actors = ap (λ (s : State). length (statuses s)) state ∙ (actors_many scene ∙ ap length (sym scripts_is));
      few = few;
      fresh = made_is;
      short = omega (arith, ap length none_yet);
    }
