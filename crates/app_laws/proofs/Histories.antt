-- Openings are settled and steps keep it, so it holds along every history; and in a settled state what does not run names nothing.
use Rattle.std.proofs.Common.{◌≡◌, ℕ, suc, ◌+◌, ◌++◌, Bool, true, false, cond, not, List, [], ◌∷◌, map, Option, Some, None, refl, sym, ◌∙◌, subst, ap, arith}
use Rattle.std.specs.Prelude.{slice_get}
use Rattle.std.specs.List.{AllByRecursion, enumerate_from, flat_map}
use Rattle.std.proofs.lemmas.List.Elements.{All-from_recursion, recursion_from_All}
use Rattle.kernel_values.specs.SceneLaw.{SceneValue}
use Rattle.kernel_values.specs.declared.entry.Entry.{Entry}
use Rattle.kernel_values.specs.declared.entry.Event.{Event}
use Rattle.kernel_values.specs.declared.scene.App.{App}
use Rattle.kernel_values.specs.declared.scene.Manifest.{Manifest}
use Rattle.kernel_values.specs.declared.state.Activity.{Activity}
use Rattle.kernel_values.specs.declared.state.Activity.TheVariants as activity
use Rattle.kernel_values.specs.declared.state.Application.{Application}
use Rattle.kernel_values.specs.declared.state.CoreState.{CoreState}
use Rattle.kernel_values.specs.declared.state.State.{State}
use Rattle.kernel_values.specs.declared.state.Thread.{Thread}
use Rattle.kernel_types.specs.Applications.{is_over}
use Rattle.kernel_types.specs.History.{Legal, state_after}
use Rattle.kernel_types.specs.Opening.{opening, opening_activity, opening_app, opening_threads}
use Rattle.kernel_types.specs.Step.{Stepped, step}
use Rattle.kernel_types.specs.Tables.{table_in}
use Rattle.set_laws.proofs.Lists.{IfThere, all_appended, all_get, all_weaker}
use Rattle.app_laws.specs.Ended.{EndedNameNone, IsSettled, NamesNone, runs, waits}
use Rattle.app_laws.proofs.Settling.{EmptyUnlessRunning, OverUnlessRunning, RunsAt}
use Rattle.app_laws.proofs.Steps.{SettledIn, settled_along, step_settles}

from_state : (s : State) → IsSettled s → SettledIn s.core
from_state s k = record {
  tables = recursion_from_All EmptyUnlessRunning s.core.apps k.tables;
  over = recursion_from_All (OverUnlessRunning s.core.apps) s.core.threads k.threads;
}

to_state : (s : State) → SettledIn s.core → IsSettled s
to_state s k = record {
  tables = All-from_recursion EmptyUnlessRunning s.core.apps k.tables;
  threads = All-from_recursion (OverUnlessRunning s.core.apps) s.core.threads k.over;
}

-- Openings.

opened_tables : (apps : List App) → AllByRecursion EmptyUnlessRunning (map opening_app apps)
opened_tables [] = tt
opened_tables (app ∷ apps) = (λ off. refl, opened_tables apps)

opened_over : (deferred : Bool) → not deferred ≡ false → is_over (cond deferred activity.Off (activity.Running 1)) ≡ true
opened_over true off = refl
opened_over false off = absurd (cc off)

module _ (whole : List Application) where
  opened_scripts : {X : Type 0} (place : ℕ) (manifest : Manifest) → RunsAt whole place ≡ not manifest.deferred → (scripts : List X)
      → AllByRecursion (OverUnlessRunning whole) (map (λ script. record { app = place; activity = opening_activity manifest }) scripts)
  opened_scripts place manifest is [] = tt
  opened_scripts place manifest is (script ∷ scripts) = (λ off. opened_over manifest.deferred (sym is ∙ off), opened_scripts place manifest is scripts)

  -- the applications from `place` on are these
  opened_threads : (place : ℕ) (apps : List App) → ((i : ℕ) → RunsAt whole (place + i) ≡ RunsAt (map opening_app apps) i)
      → AllByRecursion (OverUnlessRunning whole) (flat_map opening_threads (enumerate_from place apps))
  opened_threads place [] same = tt
  opened_threads place (app ∷ apps) same =
      let first : RunsAt whole place ≡ not app.manifest.deferred = subst (λ (n : ℕ). RunsAt whole n ≡ not app.manifest.deferred) (omega arith) (same 0) in
      let later : (i : ℕ) → RunsAt whole (place + 1 + i) ≡ RunsAt (map opening_app apps) i =
      λ i. subst (λ (n : ℕ). RunsAt whole n ≡ RunsAt (map opening_app apps) i) (omega arith) (same (suc i)) in
      all_appended (OverUnlessRunning whole) (opening_threads (place, app)) (flat_map opening_threads (enumerate_from (place + 1) apps))
      (opened_scripts place app.manifest first app.threads) (opened_threads (place + 1) apps later)

opening_settled : (scene : SceneValue) → SettledIn (opening scene).core
unfolding opening
opening_settled scene =
    let apps : List Application = map opening_app scene.apps in
    record {
      tables = opened_tables scene.apps;
      over = opened_threads apps 0 scene.apps (λ i. ap (λ n. RunsAt apps n) (omega arith));
    }

pub settled_openings : (scene : SceneValue) → IsSettled (opening scene)
settled_openings scene = to_state (opening scene) (opening_settled scene)

-- Steps.

pub steps_settle : (s : State) (e : Event) (r : Stepped) → IsSettled s → step s e ≡ Some r → IsSettled r.state
steps_settle s e r k is = to_state r.state (step_settles s e r is (from_state s k))

-- What does not run names nothing.

empty_there : (o : Option Application) → IfThere EmptyUnlessRunning o → runs o ≡ false → table_in o ≡ []
empty_there None empty off = refl
empty_there (Some app) empty off = empty off

over_waits_not : (a : Activity) → is_over a ≡ true → waits a ≡ false
over_waits_not activity.Off over = refl
over_waits_not (activity.Running start) over = refl
over_waits_not (activity.Waiting start wait) over = absurd (cc over)
over_waits_not (activity.Ended start) over = refl

none_named : (c : CoreState) → SettledIn c → (app : ℕ) → RunsAt c.apps app ≡ false → NamesNone c app
none_named c k app off =
    let W : Thread → Type 0 = λ t. t.app ≡ app → waits t.activity ≡ false in
    record {
      table = empty_there (slice_get c.apps app) (all_get EmptyUnlessRunning c.apps app k.tables) off;
      waits = All-from_recursion W c.threads (all_weaker (OverUnlessRunning c.apps) W
          (λ t over here. over_waits_not t.activity (over (ap (λ n. RunsAt c.apps n) here ∙ off))) c.threads k.over);
    }

pub name_none : (s : State) → IsSettled s → EndedNameNone s
name_none s k app off = none_named s.core (from_state s k) app off

pub openings_none : (scene : SceneValue) → EndedNameNone (opening scene)
openings_none scene = name_none (opening scene) (settled_openings scene)

-- Histories.

pub histories_none : (scene : SceneValue) (before after : List Entry) → Legal (opening scene) (before ++ after) → EndedNameNone (state_after (opening scene) before)
histories_none scene before after legal =
    name_none (state_after (opening scene) before) (to_state (state_after (opening scene) before) (settled_along (opening scene) before (opening_settled scene)))
