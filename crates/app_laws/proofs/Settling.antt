-- Which changes of applications and threads leave tables empty, and threads over, where the application does not run.
use Rattle.std.proofs.Common.{◌≡◌, ℕ, zero, suc, ◌+◌, ◌==◌, Bool, true, false, cond, List, [], ◌∷◌, map, Option, Some, None, refl, sym, ◌∙◌, subst, ap, arith, tests}
use Rattle.std.specs.Prelude.{slice_get}
use Rattle.std.specs.List.{AllByRecursion}
use Rattle.std.specs.Option.{option_map}
use Rattle.kernel_values.specs.declared.state.Activity.{Activity}
use Rattle.kernel_values.specs.declared.state.Activity.TheVariants as activity
use Rattle.kernel_values.specs.declared.state.Application.{Application}
use Rattle.kernel_values.specs.declared.state.CoreState.{CoreState}
use Rattle.kernel_values.specs.declared.state.TableEntry.{TableEntry}
use Rattle.kernel_values.specs.declared.state.Thread.{Thread}
use Rattle.kernel_types.specs.Applications.{application_ended, ended_activity, ended_app, ended_thread, is_over, is_started_again, started, started_app, started_as, started_thread, without_app}
use Rattle.kernel_types.specs.Objects.{map_at}
use Rattle.kernel_types.specs.CoreStep.{cancelled_activity, core_idle}
use Rattle.kernel_types.specs.Tables.{table_changed}
use Rattle.kernel_types.specs.Threads.{activity_changed}
use Rattle.kernel_laws.proofs.Within.{all_map_at}
use Rattle.set_laws.proofs.Lists.{IfThere, all_mapped, all_weaker}
use Rattle.step_laws.proofs.There.{map_at_later}
use Rattle.app_laws.specs.Ended.{runs}

-- A list with one item changed.

get_changed : {X : Type 0} (f : X → X) (xs : List X) (at : ℕ) → slice_get (map_at f xs at) at ≡ option_map f (slice_get xs at)
get_changed f [] at = refl
get_changed f (x ∷ xs) zero = refl
get_changed f (x ∷ xs) (suc at) =
    subst (λ (ys : List _). slice_get ys (suc at) ≡ option_map f (slice_get xs at)) (sym (map_at_later f x xs at)) (get_changed f xs at)

-- what is to hold of the changed item is known of the one that stands there
all_placed : {X : Type 0} (P : X → Type 0) (f : X → X) (xs : List X) (at : ℕ) → IfThere (λ x. P (f x)) (slice_get xs at) → AllByRecursion P xs
    → AllByRecursion P (map_at f xs at)
all_placed P f [] at there all = tt
all_placed P f (x ∷ xs) zero there all = (there, all.1)
all_placed P f (x ∷ xs) (suc at) there all =
    subst (λ (ys : List _). AllByRecursion P ys) (sym (map_at_later f x xs at)) (all.0, all_placed P f xs at there all.1)

-- What is to hold of applications and threads.

abbrev pub RunsAt : List Application → ℕ → Bool
RunsAt apps place = runs (slice_get apps place)

abbrev pub EmptyUnlessRunning : Application → Type 0
EmptyUnlessRunning app = app.running ≡ false → app.table ≡ []

abbrev pub OverUnlessRunning : List Application → Thread → Type 0
OverUnlessRunning apps thread = RunsAt apps thread.app ≡ false → is_over thread.activity ≡ true

pub record Settled (apps : List Application) (threads : List Thread) : Type 0 where
  pub tables : AllByRecursion EmptyUnlessRunning apps
  pub over : AllByRecursion (OverUnlessRunning apps) threads

-- Which places run after a change.

still_off : (f : Application → Application) → ((app : Application) → (f app).running ≡ false → app.running ≡ false) → (apps : List Application) (at place : ℕ)
    → RunsAt (map_at f apps at) place ≡ false → RunsAt apps place ≡ false
still_off f less [] at place off = off
still_off f less (app ∷ apps) zero zero off = less app off
still_off f less (app ∷ apps) zero (suc place) off = off
still_off f less (app ∷ apps) (suc at) zero off = subst (λ (xs : List Application). RunsAt xs zero ≡ false) (map_at_later f app apps at) off
still_off f less (app ∷ apps) (suc at) (suc place) off =
    still_off f less apps at place (subst (λ (xs : List Application). RunsAt xs (suc place) ≡ false) (map_at_later f app apps at) off)

others_off : (f : Application → Application) (apps : List Application) (at place : ℕ) → (place ≡ at → ⊥)
    → RunsAt (map_at f apps at) place ≡ false → RunsAt apps place ≡ false
others_off f [] at place apart off = off
others_off f (app ∷ apps) zero zero apart off = absurd (apart refl)
others_off f (app ∷ apps) zero (suc place) apart off = off
others_off f (app ∷ apps) (suc at) zero apart off = subst (λ (xs : List Application). RunsAt xs zero ≡ false) (map_at_later f app apps at) off
others_off f (app ∷ apps) (suc at) (suc place) apart off =
    others_off f apps at place (λ same. apart (ap (λ n. suc n) same))
    (subst (λ (xs : List Application). RunsAt xs (suc place) ≡ false) (map_at_later f app apps at) off)

pub not_over_runs : (b : Bool) → (b ≡ false → false ≡ true) → b ≡ true
not_over_runs true over = refl
not_over_runs false over = over refl

-- Changes of one application that leave whether it runs.

module _ (f : Application → Application) (less : (app : Application) → (f app).running ≡ false → app.running ≡ false) where
  threads_kept : (apps : List Application) (at : ℕ) (threads : List Thread) → AllByRecursion (OverUnlessRunning apps) threads
      → AllByRecursion (OverUnlessRunning (map_at f apps at)) threads
  threads_kept apps at threads all =
      all_weaker (OverUnlessRunning apps) (OverUnlessRunning (map_at f apps at)) (λ t over off. over (still_off f less apps at t.app off)) threads all

  app_changed : (apps : List Application) (threads : List Thread) (at : ℕ) → IfThere (λ a. EmptyUnlessRunning (f a)) (slice_get apps at)
      → Settled apps threads → Settled (map_at f apps at) threads
  app_changed apps threads at there k =
      record { tables = all_placed EmptyUnlessRunning f apps at there k.tables; over = threads_kept apps at threads k.over }

-- an application that runs may get entries, and report them

pub tabled : (app : ℕ) (apps : List Application) (threads : List Thread) → Settled apps threads → RunsAt apps app ≡ true → (change : List TableEntry → List TableEntry)
    → Settled (map_at (table_changed change) apps app) threads
tabled app apps threads k here change =
    let P : Option Application → Type 0 = λ o. runs o ≡ true → IfThere (λ a. EmptyUnlessRunning (table_changed change a)) o in
    let go : (o : Option Application) → P o = λ o. elim o as (λ v. P v) [ None ↦ (λ is. tt) | Some a ↦ (λ is off. absurd (cc (is, off))) ] in
    app_changed (table_changed change) (λ a off. off) apps threads app (go (slice_get apps app) here) k

pub reported : (app : ℕ) (apps : List Application) (threads : List Thread) → Settled apps threads → RunsAt apps app ≡ true → (handle : ℕ)
    → Settled (map_at (λ a. record a { last = Some handle }) apps app) threads
reported app apps threads k here handle =
    let P : Option Application → Type 0 = λ o. runs o ≡ true → IfThere (λ (a : Application). EmptyUnlessRunning (record a { last = Some handle })) o in
    let go : (o : Option Application) → P o = λ o. elim o as (λ v. P v) [ None ↦ (λ is. tt) | Some a ↦ (λ is off. absurd (cc (is, off))) ] in
    app_changed (λ a. record a { last = Some handle }) (λ a off. off) apps threads app (go (slice_get apps app) here) k

-- Changes of threads: one that is over stays over.

abbrev pub KeepsOver : (Activity → Activity) → Type 0
KeepsOver change = (a : Activity) → is_over a ≡ true → is_over (change a) ≡ true

pub acted_settled : (apps : List Application) (threads : List Thread) → Settled apps threads → (change : Activity → Activity) → KeepsOver change → (thread : ℕ)
    → Settled apps (map_at (activity_changed change) threads thread)
acted_settled apps threads k change keeps thread = record {
  tables = k.tables;
  over = all_map_at (OverUnlessRunning apps) (activity_changed change) (λ t over off. keeps t.activity (over off)) threads thread k.over;
}

cancelled_over : (a : Activity) → is_over a ≡ true → is_over (cancelled_activity a) ≡ true
cancelled_over activity.Off over = over
cancelled_over (activity.Running start) over = over
cancelled_over (activity.Waiting start wait) over = over
cancelled_over (activity.Ended start) over = over

pub idled : (c : CoreState) → Settled c.apps c.threads → (deadline : Option ℕ) → Settled (core_idle deadline c).apps (core_idle deadline c).threads
unfolding core_idle
idled c k None = record {
  tables = k.tables;
  over = all_mapped (OverUnlessRunning c.apps) (OverUnlessRunning c.apps) (activity_changed cancelled_activity) (λ t over off. cancelled_over t.activity (over off)) c.threads k.over;
}
idled c k (Some deadline) = k

-- Starts.

started_runs : (apps : List Application) (at : ℕ) (was : Application) → slice_get apps at ≡ Some was → RunsAt (map_at started_app apps at) at ≡ true
started_runs apps at was is = ap runs (get_changed started_app apps at ∙ ap (λ o. option_map started_app o) is)

empty_started : (o : Option Application) → IfThere (λ (a : Application). EmptyUnlessRunning (started_app a)) o
empty_started None = tt
empty_started (Some a) = λ off. refl

module _ (place start : ℕ) (apps : List Application) where
  abbrev Now : List Application
  Now = map_at started_app apps place

  one_started : RunsAt Now place ≡ true → (t : Thread) → OverUnlessRunning apps t → (b : Bool) → (t.app == place) ≡ b
      → OverUnlessRunning Now (cond b (record t { activity = activity.Running start }) t)
  one_started run t over true is = λ off.
      let same : t.app ≡ place = grind (arith, tests) in
      absurd (cc (run, subst (λ (n : ℕ). RunsAt Now n ≡ false) same off))
  one_started run t over false is = λ off. over (still_off started_app (λ a wrong. absurd (cc wrong)) apps place t.app off)

  all_started : RunsAt Now place ≡ true → (threads : List Thread) → Settled apps threads → Settled Now (map (started_thread place start) threads)
  all_started run threads k = record {
    tables = all_placed EmptyUnlessRunning started_app apps place (empty_started (slice_get apps place)) k.tables;
    over = all_mapped (OverUnlessRunning apps) (OverUnlessRunning Now) (started_thread place start)
        (λ t over. one_started run t over (t.app == place) refl) threads k.over;
  }

started_as_settled : (place : ℕ) (c : CoreState) → Settled c.apps c.threads → (o : Option Application) → slice_get c.apps place ≡ o
    → Settled (started_as place o c).apps (started_as place o c).threads
started_as_settled place c k None is = k
started_as_settled place c k (Some was) is = all_started place (was.starts + 1) c.apps (started_runs c.apps place was is) c.threads k

pub started_settled : (place : ℕ) (c : CoreState) → Settled c.apps c.threads → Settled (started place c).apps (started place c).threads
unfolding started
started_settled place c k = started_as_settled place c k (slice_get c.apps place) refl

-- Ends.

pub ended_over : (a : Activity) → is_over (ended_activity a) ≡ true
ended_over activity.Off = refl
ended_over (activity.Running start) = refl
ended_over (activity.Waiting start wait) = refl
ended_over (activity.Ended start) = refl

empty_ended : (o : Option Application) → IfThere (λ (a : Application). EmptyUnlessRunning (ended_app a)) o
empty_ended None = tt
empty_ended (Some a) = λ off. refl

one_ended : (app : ℕ) (apps : List Application) (t : Thread) → OverUnlessRunning apps t → (b : Bool) → (t.app == app) ≡ b
    → OverUnlessRunning (map_at ended_app apps app) (cond b (record t { activity = ended_activity t.activity }) t)
one_ended app apps t over true is = λ off. ended_over t.activity
one_ended app apps t over false is = λ off. over (others_off ended_app apps app t.app (λ same. grind (arith, tests)) off)

pub over_settled : (app : ℕ) (c : CoreState) → Settled c.apps c.threads → Settled (application_ended app c).apps (application_ended app c).threads
unfolding application_ended
over_settled app c k =
    let d : CoreState = without_app app c in
    let less : Settled d.apps d.threads = record {
      tables = all_placed EmptyUnlessRunning ended_app c.apps app (empty_ended (slice_get c.apps app)) k.tables;
      over = all_mapped (OverUnlessRunning c.apps) (OverUnlessRunning d.apps) (ended_thread app) (λ t over. one_ended app c.apps t over (t.app == app) refl) c.threads k.over;
    } in
    elim (is_started_again (slice_get c.apps app)) as (λ b. Settled (cond b (started app d) d).apps (cond b (started app d) d).threads) [
      | true ↦ started_settled app d less
      | false ↦ less
    ]
