-- What calls and ends of waits leave: changes of threads and applications leave the ends that the bridge names, and the clock.
use Rattle.std.proofs.Common.{◌≡◌, ◌∙◌, ℕ, Bool, true, false, cond, Option, Some, None, refl, subst, sym}
use Rattle.std.specs.Prelude.{slice_get}
use Rattle.kernel_values.specs.declared.call.Call.{Call}
use Rattle.kernel_values.specs.declared.reply.Answer.{Answer}
use Rattle.kernel_values.specs.declared.state.CoreState.{CoreState}
use Rattle.kernel_values.specs.declared.state.Wait.{Wait}
use Rattle.kernel_types.specs.Applications.{application_ended, is_started_again, started, started_as, without_app}
use Rattle.kernel_types.specs.CoreStep.{core_begin, core_idle, core_resume}
use Rattle.kernel_types.specs.Outcome.{Outcome}
use Rattle.kernel_types.specs.Sweep.{sweep}
use Rattle.kernel_types.specs.Threads.{running_activity, with_activity}
use Rattle.kernel_types.specs.Waits.{end_of_wait}
use Rattle.step_laws.specs.Walks.{ThreadChange, after_thread}
use Rattle.step_laws.specs.Walks.ThreadChange.{app_over, app_started, member_added, set_made, thread_over, wait_begun}
use Rattle.step_laws.proofs.Calls.{GoesIf, end_of_wait_goes}
use Rattle.step_laws.proofs.Leaving.{Quiet, Untouched, quiet_of, row_leaves, sweep_leaves}
use Rattle.step_laws.proofs.Outcomes.{Acts, Comes}
use Rattle.step_laws.proofs.Rows.{row_keeps}
use Rattle.step_laws.proofs.Steps.{none_yet}
use Rattle.step_laws.proofs.Turns.{Begun, Resumed, begun_by, resumed_by}

pub comes_quiet : {by : Option ℕ} {reads ends : Bool} (c : CoreState) (outcome : Outcome) → Comes by reads ends c outcome → Quiet c outcome.core
comes_quiet {by} c outcome comes = quiet_of c outcome.core (row_leaves by c outcome.core comes.walk.row)

goes_quiet : (by : Option ℕ) (c : CoreState) (o : Option Outcome) (outcome : Outcome) → o ≡ Some outcome → GoesIf by c o → Quiet c outcome.core
goes_quiet by c None outcome is goes = absurd (cc)
goes_quiet by c (Some found) outcome is goes = subst (λ (x : Outcome). Quiet c x.core) (let same : found ≡ outcome = cc in same) (comes_quiet c found goes)

-- the end of a wait
pub quiet_end : (c : CoreState) (app : ℕ) (w : Wait) (outcome : Outcome) → end_of_wait c app w ≡ Some outcome → Quiet c outcome.core
quiet_end c app w outcome is = goes_quiet (Some app) c (end_of_wait c app w) outcome is (end_of_wait_goes app c c (none_yet (Some app) c) w)

-- Threads and applications.

pub record Left (c d : CoreState) : Type 0 where
  pub bridged : d.bridged ≡ c.bridged
  pub clock : d.clock ≡ c.clock

then_left : (c b d : CoreState) → Left c b → Left b d → Left c d
then_left c b d one other = record { bridged = other.bridged ∙ one.bridged; clock = other.clock ∙ one.clock }

pub started_left : (place : ℕ) (c : CoreState) → Left c (started place c)
unfolding started
started_left place c = elim (slice_get c.apps place) as (λ o. Left c (started_as place o c)) [ None ↦ record { bridged = refl; clock = refl } | Some was ↦ record { bridged = refl; clock = refl } ]

ended_left : (app : ℕ) (c : CoreState) → Left c (application_ended app c)
unfolding application_ended
ended_left app c =
    let less : Left (without_app app c) (started app (without_app app c)) = started_left app (without_app app c) in
    elim (is_started_again (slice_get c.apps app)) as (λ b. Left c (cond b (started app (without_app app c)) (without_app app c))) [
      | true ↦ record { bridged = less.bridged; clock = less.clock }
      | false ↦ record { bridged = refl; clock = refl }
    ]

call_leaves : (app thread : ℕ) (asked : Call) (said : Answer) (c b : CoreState) → Left c b → (change : ThreadChange app thread asked said b) → Left c (after_thread app thread asked said b change)
call_leaves app thread asked said c b k (set_made is made room) = record { bridged = k.bridged; clock = k.clock }
call_leaves app thread asked said c b k (member_added held handle mask cookie id set entry is here may) = record { bridged = k.bridged; clock = k.clock }
call_leaves app thread asked said c b k (wait_begun on awaits goes is) = record { bridged = k.bridged; clock = k.clock }
call_leaves app thread asked said c b k (thread_over ends) = record { bridged = k.bridged; clock = k.clock }
call_leaves app thread asked said c b k (app_started place was there still connects) = then_left c b (started place b) k (started_left place b)
call_leaves app thread asked said c b k (app_over ends) = then_left c b (application_ended app b) k (ended_left app b)

acts_leave : (app thread : ℕ) (asked : Call) (c : CoreState) (outcome : Outcome) → Acts app thread asked c outcome → Left c outcome.core
acts_leave app thread asked c outcome acts =
    let first : Untouched c acts.middle = row_leaves (Some app) c acts.middle acts.walk.row in
    row_keeps (ThreadChange app thread asked outcome.answer) (after_thread app thread asked outcome.answer) (λ (x : CoreState). Left c x)
    (call_leaves app thread asked outcome.answer c) acts.middle outcome.core acts.changes (record { bridged = first.bridged; clock = first.clock })

-- Steps of threads.

swept_left : (c d : CoreState) → Left c d → Left c (sweep d)
swept_left c d k = record { bridged = (sweep_leaves d).bridged ∙ k.bridged; clock = (sweep_leaves d).clock ∙ k.clock }

abbrev pub LeftIf : CoreState → Option Outcome → Type 0
LeftIf c None = Unit {0}
LeftIf c (Some outcome) = Left c outcome.core

left_if : (c : CoreState) (o : Option Outcome) → ((outcome : Outcome) → o ≡ Some outcome → Left c outcome.core) → LeftIf c o
left_if c None left = tt
left_if c (Some outcome) left = left outcome refl

pub begin_leaves : (c : CoreState) (thread start : ℕ) (asked : Call) → LeftIf c (core_begin c thread start asked)
begin_leaves c thread start asked = left_if c (core_begin c thread start asked) (λ outcome is.
    let begun : Begun c thread start asked outcome = begun_by c thread start asked outcome is in
    subst (λ (o : Outcome). Left c o.core) (sym begun.ends) (swept_left c begun.inner.core (acts_leave begun.found.app thread asked c begun.inner begun.acts)))

pub resume_leaves : (c : CoreState) (thread start : ℕ) → LeftIf c (core_resume c thread start)
resume_leaves c thread start = left_if c (core_resume c thread start) (λ outcome is.
    let over : Resumed c thread start outcome = resumed_by c thread start outcome is in
    let first : Untouched c over.inner.core = row_leaves (Some over.found.app) c over.inner.core over.comes.walk.row in
    let runs : CoreState = with_activity running_activity thread over.inner.core in
    subst (λ (o : Outcome). Left c o.core) (sym over.ends) (swept_left c runs (record { bridged = first.bridged; clock = first.clock })))

pub idle_leaves : (c : CoreState) (deadline : Option ℕ) → (core_idle deadline c).bridged ≡ c.bridged
unfolding core_idle
idle_leaves c None = refl
idle_leaves c (Some deadline) = refl
