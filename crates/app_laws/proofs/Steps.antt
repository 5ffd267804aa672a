-- Every step leaves a settled state: tables are changed by threads that have not ended, whose applications run, and the normal
-- world gives an application nothing but a start.
use Rattle.std.proofs.Common.{◌≡◌, ℕ, true, false, List, Option, Some, None, refl, sym, ◌∙◌, subst}
use Rattle.std.specs.Prelude.{slice_get}
use Rattle.kernel_values.specs.declared.call.Call.{Call}
use Rattle.kernel_values.specs.declared.reply.Answer.{Answer}
use Rattle.kernel_values.specs.declared.state.Activity.TheVariants as activity
use Rattle.kernel_values.specs.declared.state.CoreState.{CoreState}
use Rattle.kernel_values.specs.declared.state.Thread.{Thread}
use Rattle.kernel_values.specs.declared.state.Wait.{Wait}
use Rattle.kernel_types.specs.Applications.{ended_activity, is_over}
use Rattle.kernel_types.specs.Sweep.{kept, pruned, sweep}
use Rattle.kernel_types.specs.Tables.{install}
use Rattle.kernel_types.specs.Threads.{new_wait, running_activity, waiting_activity}
use Rattle.kernel_types.specs.Waits.{deadline_of}
use Rattle.set_laws.proofs.Lists.{IfThere, all_get}
use Rattle.step_laws.specs.SmallChanges.{SmallChange, after}
use Rattle.step_laws.specs.SmallChanges.SmallChange.{cookie_changed, end_accepted, entry_installed, entry_removed, last_changed, parts_installed}
use Rattle.step_laws.specs.Walks.{MadeBy, ThreadChange, after_thread, timeout_of}
use Rattle.step_laws.specs.Walks.MadeBy.{by_bridge, by_thread}
use Rattle.step_laws.specs.Walks.ThreadChange.{app_over, app_started, member_added, set_made, thread_over, wait_begun}
use Rattle.step_laws.proofs.Invariants.{Invariant, holds_along, step_keeps}
use Rattle.kernel_values.specs.declared.entry.Entry.{Entry}
use Rattle.kernel_values.specs.declared.entry.Event.{Event}
use Rattle.kernel_values.specs.declared.state.State.{State}
use Rattle.kernel_types.specs.History.{state_after}
use Rattle.kernel_types.specs.Step.{Stepped, step}
use Rattle.step_laws.proofs.Leaving.{accept_keeps}
use Rattle.app_laws.proofs.Settling.{KeepsOver, OverUnlessRunning, RunsAt, Settled, acted_settled, ended_over, idled, not_over_runs, over_settled, reported, started_settled, tabled}

abbrev pub SettledIn : CoreState → Type 0
SettledIn c = Settled c.apps c.threads

-- the application of a thread that has not ended runs
running : (c : CoreState) → SettledIn c → (found : Thread) (o : Option Thread) → o ≡ Some found → IfThere (OverUnlessRunning c.apps) o → is_over found.activity ≡ false
    → RunsAt c.apps found.app ≡ true
running c k found None is over goes = absurd (cc)
running c k found (Some other) is over goes =
    let same : other ≡ found = cc in
    not_over_runs (RunsAt c.apps found.app) (λ off. sym goes ∙ subst (λ (t : Thread). OverUnlessRunning c.apps t) same over off)

acting_runs : (by : Option ℕ) (c : CoreState) → SettledIn c → MadeBy by c → (app : ℕ) → by ≡ Some app → RunsAt c.apps app ≡ true
acting_runs by c k (by_thread thread found there of_app goes) app is =
    let one : Some found.app ≡ Some app = sym of_app ∙ is in
    let same : found.app ≡ app = cc in
    subst (λ (n : ℕ). RunsAt c.apps n ≡ true) same
    (running c k found (slice_get c.threads thread) there (all_get (OverUnlessRunning c.apps) c.threads thread k.over) goes)
acting_runs by c k (by_bridge none) app is = absurd (cc)

small_settles : (by : Option ℕ) (c : CoreState) → SettledIn c → MadeBy by c → (change : SmallChange by c) → SettledIn (after by c change)
small_settles by c k made (cookie_changed app of_app handle cookie entry held) = tabled app c.apps c.threads k (acting_runs by c k made app of_app) _
small_settles by c k made (entry_removed app of_app handle entry held) = tabled app c.apps c.threads k (acting_runs by c k made app of_app) _
small_settles by c k made (entry_installed app of_app object nameable room) = tabled app c.apps c.threads k (acting_runs by c k made app of_app) _
small_settles by c k made (parts_installed app of_app id number count end message there is_open room) = tabled app c.apps c.threads k (acting_runs by c k made app of_app) _
small_settles by c k made (last_changed app of_app entry first) = reported app c.apps c.threads k (acting_runs by c k made app of_app) entry.handle
small_settles by c k made (end_accepted app of_app id server rest port there first room) =
    accept_keeps (λ d. SettledIn (install app server d)) (λ d objects l. l) id server rest c (tabled app c.apps c.threads k (acting_runs by c k made app of_app) _)
small_settles by c k made _ = k

waiting_over : (w : Wait) → KeepsOver (waiting_activity w)
waiting_over w activity.Off over = over
waiting_over w (activity.Running start) over = absurd (cc over)
waiting_over w (activity.Waiting start wait) over = over
waiting_over w (activity.Ended start) over = over

running_over : KeepsOver running_activity
running_over activity.Off over = over
running_over (activity.Running start) over = over
running_over (activity.Waiting start wait) over = absurd (cc over)
running_over (activity.Ended start) over = over

thread_settles : (app thread : ℕ) (asked : Call) (said : Answer) (c : CoreState) → SettledIn c → (change : ThreadChange app thread asked said c)
    → SettledIn (after_thread app thread asked said c change)
thread_settles app thread asked said c k (set_made is made room) = tabled app c.apps c.threads k (acting_runs (Some app) c k made app refl) _
thread_settles app thread asked said c k (member_added held handle mask cookie id set entry is here may) = k
thread_settles app thread asked said c k (wait_begun on awaits goes is) =
    let wait : Wait = new_wait on (deadline_of c.clock (timeout_of asked)) in
    acted_settled c.apps c.threads k (waiting_activity wait) (waiting_over wait) thread
thread_settles app thread asked said c k (app_started place was there still connects) = started_settled place c k
thread_settles app thread asked said c k (thread_over ends) = acted_settled c.apps c.threads k ended_activity (λ a over. ended_over a) thread
thread_settles app thread asked said c k (app_over ends) = over_settled app c k

-- nothing but objects ends by itself
swept_settled : (c : CoreState) → SettledIn c → SettledIn (sweep c)
unfolding sweep pruned kept
swept_settled c k = k

settling : Invariant
settling = record {
  holds = SettledIn;
  small = small_settles;
  call = thread_settles;
  resumed = λ thread c k. acted_settled c.apps c.threads k running_activity running_over thread;
  served = λ place c k. started_settled place c k;
  bridged = λ end c k given. k;
  unbridged = λ end c k. k;
  passed = λ deadline c k. idled c k deadline;
  swept = swept_settled;
}

pub step_settles : (s : State) (e : Event) (r : Stepped) → step s e ≡ Some r → SettledIn s.core → SettledIn r.state.core
unfolding settling
step_settles s e r is k = step_keeps settling s e r is k

pub settled_along : (s : State) (entries : List Entry) → SettledIn s.core → SettledIn (state_after s entries).core
unfolding settling
settled_along s entries k = holds_along settling s entries k
