-- A step of a thread, with the thread that takes it: for laws that ask who acts, and with which call.
use Rattle.std.proofs.Common.{◌≡◌, ℕ, ◌==◌, Bool, true, false, cond, Option, Some, None, refl, ap, subst, arith, tests}
use Rattle.std.specs.Prelude.{slice_get}
use Rattle.std.specs.Option.{option_map}
use Rattle.kernel_values.specs.declared.call.Call.{Call}
use Rattle.kernel_values.specs.declared.state.Activity.{Activity}
use Rattle.kernel_values.specs.declared.state.Activity.TheVariants as activity
use Rattle.kernel_values.specs.declared.state.CoreState.{CoreState}
use Rattle.kernel_values.specs.declared.state.Thread.{Thread}
use Rattle.kernel_values.specs.declared.state.Wait.{Wait}
use Rattle.kernel_types.specs.Applications.{is_over}
use Rattle.kernel_types.specs.CoreStep.{act, begin_as, begin_of, core_begin, core_resume, resume_as, resume_of, resumed, swept}
use Rattle.kernel_types.specs.Outcome.{Outcome}
use Rattle.kernel_types.specs.Waits.{end_of_wait}
use Rattle.step_laws.proofs.Acting.{DoesIf, act_goes}
use Rattle.step_laws.proofs.Calls.{GoesIf, end_of_wait_goes}
use Rattle.step_laws.proofs.Outcomes.{Acts, Comes}
use Rattle.step_laws.proofs.Steps.{acting, none_yet}

-- a thread that runs makes the call, and the sweep ends the step
pub record Begun (c : CoreState) (thread start : ℕ) (asked : Call) (outcome : Outcome) : Type 0 where
  pub found : Thread
  pub there : slice_get c.threads thread ≡ Some found
  pub runs : found.activity ≡ activity.Running start
  pub inner : Outcome
  pub acts : Acts found.app thread asked c inner
  pub ends : outcome ≡ swept inner

-- the wait of a thread ends, the thread runs on, and the sweep ends the step
pub record Resumed (c : CoreState) (thread start : ℕ) (outcome : Outcome) : Type 0 where
  pub found : Thread
  pub there : slice_get c.threads thread ≡ Some found
  pub wait : Wait
  pub waited : found.activity ≡ activity.Waiting start wait
  pub inner : Outcome
  pub comes : Comes (Some found.app) false true c inner
  pub ends : outcome ≡ resumed thread inner

begun_inner : (c : CoreState) (thread start : ℕ) (asked : Call) (outcome : Outcome) (found : Thread) → slice_get c.threads thread ≡ Some found → found.activity ≡ activity.Running start
    → (o : Option Outcome) → DoesIf found.app thread c asked o → option_map swept o ≡ Some outcome → Begun c thread start asked outcome
begun_inner c thread start asked outcome found there runs None does is = absurd (cc)
begun_inner c thread start asked outcome found there runs (Some inner) does is =
    let same : outcome ≡ swept inner = cc in
    record { found = found; there = there; runs = runs; inner = inner; acts = does; ends = same }

begun_as : (c : CoreState) (thread start : ℕ) (asked : Call) (outcome : Outcome) (found : Thread) → slice_get c.threads thread ≡ Some found → (a : Activity) → found.activity ≡ a
    → begin_as c thread start asked found.app a ≡ Some outcome → Begun c thread start asked outcome
begun_as c thread start asked outcome found there (activity.Running running) state is =
    let P : Bool → Type 0 = λ b. (running == start) ≡ b → cond b (option_map swept (act c thread found.app asked)) None ≡ Some outcome → Begun c thread start asked outcome in
    let go : (b : Bool) → P b = λ b. elim b as (λ v. P v) [
      | true ↦ (λ same got. let now : running ≡ start = grind (arith, tests) in
          begun_inner c thread start asked outcome found there (subst (λ (n : ℕ). found.activity ≡ activity.Running n) now state) (act c thread found.app asked)
          (act_goes found.app thread c (acting c thread found there (ap is_over state)) c (none_yet (Some found.app) c) asked) got)
      | false ↦ (λ same got. absurd (cc))
    ] in
    go (running == start) refl is
begun_as c thread start asked outcome found there activity.Off state is = absurd (cc)
begun_as c thread start asked outcome found there (activity.Waiting since wait) state is = absurd (cc)
begun_as c thread start asked outcome found there (activity.Ended since) state is = absurd (cc)

begun_of : (c : CoreState) (thread start : ℕ) (asked : Call) (outcome : Outcome) (o : Option Thread) → slice_get c.threads thread ≡ o
    → begin_of c thread start asked o ≡ Some outcome → Begun c thread start asked outcome
begun_of c thread start asked outcome None there is = absurd (cc)
begun_of c thread start asked outcome (Some found) there is = begun_as c thread start asked outcome found there found.activity refl is

pub begun_by : (c : CoreState) (thread start : ℕ) (asked : Call) (outcome : Outcome) → core_begin c thread start asked ≡ Some outcome → Begun c thread start asked outcome
unfolding core_begin
begun_by c thread start asked outcome is = begun_of c thread start asked outcome (slice_get c.threads thread) refl is

resumed_inner : (c : CoreState) (thread start : ℕ) (outcome : Outcome) (found : Thread) → slice_get c.threads thread ≡ Some found → (wait : Wait) → found.activity ≡ activity.Waiting start wait
    → (o : Option Outcome) → GoesIf (Some found.app) c o → option_map (resumed thread) o ≡ Some outcome → Resumed c thread start outcome
resumed_inner c thread start outcome found there wait waited None goes is = absurd (cc)
resumed_inner c thread start outcome found there wait waited (Some inner) goes is =
    let same : outcome ≡ resumed thread inner = cc in
    record { found = found; there = there; wait = wait; waited = waited; inner = inner; comes = goes; ends = same }

resumed_as : (c : CoreState) (thread start : ℕ) (outcome : Outcome) (found : Thread) → slice_get c.threads thread ≡ Some found → (a : Activity) → found.activity ≡ a
    → resume_as c thread start found.app a ≡ Some outcome → Resumed c thread start outcome
resumed_as c thread start outcome found there (activity.Waiting since wait) state is =
    let P : Bool → Type 0 = λ b. (since == start) ≡ b → cond b (option_map (resumed thread) (end_of_wait c found.app wait)) None ≡ Some outcome → Resumed c thread start outcome in
    let go : (b : Bool) → P b = λ b. elim b as (λ v. P v) [
      | true ↦ (λ same got. let now : since ≡ start = grind (arith, tests) in
          resumed_inner c thread start outcome found there wait (subst (λ (n : ℕ). found.activity ≡ activity.Waiting n wait) now state) (end_of_wait c found.app wait)
          (end_of_wait_goes found.app c c (none_yet (Some found.app) c) wait) got)
      | false ↦ (λ same got. absurd (cc))
    ] in
    go (since == start) refl is
resumed_as c thread start outcome found there activity.Off state is = absurd (cc)
resumed_as c thread start outcome found there (activity.Running since) state is = absurd (cc)
resumed_as c thread start outcome found there (activity.Ended since) state is = absurd (cc)

resumed_of : (c : CoreState) (thread start : ℕ) (outcome : Outcome) (o : Option Thread) → slice_get c.threads thread ≡ o → resume_of c thread start o ≡ Some outcome → Resumed c thread start outcome
resumed_of c thread start outcome None there is = absurd (cc)
resumed_of c thread start outcome (Some found) there is = resumed_as c thread start outcome found there found.activity refl is

pub resumed_by : (c : CoreState) (thread start : ℕ) (outcome : Outcome) → core_resume c thread start ≡ Some outcome → Resumed c thread start outcome
unfolding core_resume
resumed_by c thread start outcome is = resumed_of c thread start outcome (slice_get c.threads thread) refl is
