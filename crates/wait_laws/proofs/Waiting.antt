-- Which threads wait after a change of threads: those that waited so before, and that which begins to.
use Rattle.std.proofs.Common.{◌≡◌, ℕ, ◌+◌, ◌==◌, Bool, true, false, cond, List, map, Option, Some, None, ap, sym, ◌∙◌, subst, inl, inr}
use Rattle.std.specs.Prelude.{◌⊎◌, slice_get}
use Rattle.kernel_values.specs.declared.state.Activity.{Activity}
use Rattle.kernel_values.specs.declared.state.Activity.TheVariants as activity
use Rattle.kernel_values.specs.declared.state.Application.{Application}
use Rattle.kernel_values.specs.declared.state.CoreState.{CoreState}
use Rattle.kernel_values.specs.declared.state.Thread.{Thread}
use Rattle.kernel_values.specs.declared.state.Wait.{Wait}
use Rattle.kernel_types.specs.Applications.{application_ended, ended_activity, ended_thread, is_started_again, started, started_as, started_thread, without_app}
use Rattle.kernel_types.specs.CoreStep.{cancelled_activity}
use Rattle.kernel_types.specs.Objects.{map_at}
use Rattle.kernel_types.specs.Threads.{activity_changed, running_activity, waiting_activity}
use Rattle.run_laws.proofs.Places.{map_at_get, map_get}

-- a thread waits so, by this start
pub record IsWaiting (threads : List Thread) (k start : ℕ) (wait : Wait) : Type 0 where
  pub thread : Thread
  pub there : slice_get threads k ≡ Some thread
  pub waits : thread.activity ≡ activity.Waiting start wait

-- whoever waits in the other list waits so in this one
abbrev pub WaitedIn : List Thread → List Thread → Type 0
WaitedIn threads others = (k start : ℕ) (wait : Wait) → IsWaiting others k start wait → IsWaiting threads k start wait

pub same_waited : (threads others : List Thread) → others ≡ threads → WaitedIn threads others
same_waited threads others same k start wait w = subst (λ ts. IsWaiting ts k start wait) same w

-- Starts and ends of applications.

started_one : (n start : ℕ) (wait : Wait) (was : Thread) (b : Bool) → (cond b (record was { activity = activity.Running n }) was).activity ≡ activity.Waiting start wait
    → was.activity ≡ activity.Waiting start wait
started_one n start wait was true is = absurd (cc)
started_one n start wait was false is = is

threads_started : (app n : ℕ) (threads : List Thread) → WaitedIn threads (map (started_thread app n) threads)
threads_started app n threads k start wait w =
    let from : (x : Thread) × (slice_get threads k ≡ Some x) × (started_thread app n x ≡ w.thread) = map_get (started_thread app n) threads k w.thread w.there in
    record {
      thread = from.0;
      there = from.1;
      waits = started_one n start wait from.0 (from.0.app == app) (ap (λ (t : Thread). t.activity) from.2 ∙ w.waits);
    }

started_as_waited : (app : ℕ) (o : Option Application) (c : CoreState) → WaitedIn c.threads (started_as app o c).threads
started_as_waited app None c k start wait w = w
started_as_waited app (Some was) c k start wait w = threads_started app (was.starts + 1) c.threads k start wait w

pub started_waited : (app : ℕ) (c : CoreState) → WaitedIn c.threads (started app c).threads
unfolding started
started_waited app c = started_as_waited app (slice_get c.apps app) c

pub ended_never : (a : Activity) (start : ℕ) (wait : Wait) → ended_activity a ≡ activity.Waiting start wait → ⊥
ended_never activity.Off start wait is = absurd (cc)
ended_never (activity.Running past) start wait is = absurd (cc)
ended_never (activity.Waiting past old) start wait is = absurd (cc)
ended_never (activity.Ended past) start wait is = absurd (cc)

ended_one : (start : ℕ) (wait : Wait) (was : Thread) (b : Bool) → (cond b (record was { activity = ended_activity was.activity }) was).activity ≡ activity.Waiting start wait
    → was.activity ≡ activity.Waiting start wait
ended_one start wait was true is = absurd (ended_never was.activity start wait is)
ended_one start wait was false is = is

threads_ended : (app : ℕ) (threads : List Thread) → WaitedIn threads (map (ended_thread app) threads)
threads_ended app threads k start wait w =
    let from : (x : Thread) × (slice_get threads k ≡ Some x) × (ended_thread app x ≡ w.thread) = map_get (ended_thread app) threads k w.thread w.there in
    record { thread = from.0; there = from.1; waits = ended_one start wait from.0 (from.0.app == app) (ap (λ (t : Thread). t.activity) from.2 ∙ w.waits) }

pub over_waited : (app : ℕ) (c : CoreState) → WaitedIn c.threads (application_ended app c).threads
unfolding application_ended
over_waited app c k start wait =
    let less : CoreState = without_app app c in
    let first : IsWaiting less.threads k start wait → IsWaiting c.threads k start wait = threads_ended app c.threads k start wait in
    elim (is_started_again (slice_get c.apps app)) as (λ b. IsWaiting (cond b (started app less) less).threads k start wait → IsWaiting c.threads k start wait) [
      | true ↦ (λ w. first (started_waited app less k start wait w))
      | false ↦ (λ w. first w)
    ]

-- One thread does something else.

pub running_never : (a : Activity) (start : ℕ) (wait : Wait) → running_activity a ≡ activity.Waiting start wait → ⊥
running_never activity.Off start wait is = absurd (cc)
running_never (activity.Running past) start wait is = absurd (cc)
running_never (activity.Waiting past old) start wait is = absurd (cc)
running_never (activity.Ended past) start wait is = absurd (cc)

-- it does not wait then: only others do
pub others_waited : (change : Activity → Activity) → ((a : Activity) (start : ℕ) (wait : Wait) → change a ≡ activity.Waiting start wait → ⊥) → (threads : List Thread) (at k start : ℕ) (wait : Wait)
    → IsWaiting (map_at (activity_changed change) threads at) k start wait → (k ≡ at → ⊥) × IsWaiting threads k start wait
others_waited change never threads at k start wait w = elim (map_at_get (activity_changed change) threads at k w.thread w.there) [
  | inl old ↦ (old.0, record { thread = w.thread; there = old.1; waits = w.waits })
  | inr new ↦ absurd (never new.1.activity start wait (ap (λ (t : Thread). t.activity) (sym new.3) ∙ w.waits))
]

begins_so : (new wait : Wait) (start : ℕ) (a : Activity) → waiting_activity new a ≡ activity.Waiting start wait → (a ≡ activity.Waiting start wait) ⊎ ((a ≡ activity.Running start) × (wait ≡ new))
begins_so new wait start activity.Off is = absurd (cc)
begins_so new wait start (activity.Running running) is =
    inr (ap (λ n. activity.Running n) (let same : running ≡ start = cc in same), let same : wait ≡ new = cc in same)
begins_so new wait start (activity.Waiting past old) is = inl is
begins_so new wait start (activity.Ended past) is = absurd (cc)

-- the thread at this place ran, and waits so
pub record BeganAt (threads : List Thread) (at k start : ℕ) (new wait : Wait) : Type 0 where
  pub place : k ≡ at
  pub wait_is : wait ≡ new
  pub thread : Thread
  pub there : slice_get threads k ≡ Some thread
  pub ran : thread.activity ≡ activity.Running start

began_by : (threads : List Thread) (at k start : ℕ) (new wait : Wait) (thread was : Thread) → k ≡ at → slice_get threads k ≡ Some was → waiting_activity new was.activity ≡ activity.Waiting start wait
    → IsWaiting threads k start wait ⊎ BeganAt threads at k start new wait
began_by threads at k start new wait thread was place there is = elim (begins_so new wait start was.activity is) [
  | inl old ↦ inl (record { thread = was; there = there; waits = old })
  | inr both ↦ inr (record { place = place; wait_is = both.1; thread = was; there = there; ran = both.0 })
]

pub waits_or_began : (new : Wait) (threads : List Thread) (at k start : ℕ) (wait : Wait) → IsWaiting (map_at (activity_changed (waiting_activity new)) threads at) k start wait
    → IsWaiting threads k start wait ⊎ BeganAt threads at k start new wait
waits_or_began new threads at k start wait w = elim (map_at_get (activity_changed (waiting_activity new)) threads at k w.thread w.there) [
  | inl old ↦ inl (record { thread = w.thread; there = old.1; waits = w.waits })
  | inr found ↦ began_by threads at k start new wait w.thread found.1 found.0 found.2 (ap (λ (t : Thread). t.activity) (sym found.3) ∙ w.waits)
]

-- Every wait is cancelled.

cancelled_so : (a : Activity) (start : ℕ) (wait : Wait) → cancelled_activity a ≡ activity.Waiting start wait → (was : Wait) × (a ≡ activity.Waiting start was) × (wait.cancelled ≡ true)
cancelled_so activity.Off start wait is = absurd (cc)
cancelled_so (activity.Running past) start wait is = absurd (cc)
cancelled_so (activity.Waiting past was) start wait is =
    let marked : record was { cancelled = true } ≡ wait = cc in
    (was, ap (λ n. activity.Waiting n was) (let same : past ≡ start = cc in same), ap (λ (x : Wait). x.cancelled) (sym marked))
cancelled_so (activity.Ended past) start wait is = absurd (cc)

pub cancelled_waited : (threads : List Thread) (k start : ℕ) (wait : Wait) → IsWaiting (map (activity_changed cancelled_activity) threads) k start wait
    → (was : Wait) × IsWaiting threads k start was × (wait.cancelled ≡ true)
cancelled_waited threads k start wait w =
    let from : (x : Thread) × (slice_get threads k ≡ Some x) × (activity_changed cancelled_activity x ≡ w.thread) = map_get (activity_changed cancelled_activity) threads k w.thread w.there in
    let so : (was : Wait) × (from.0.activity ≡ activity.Waiting start was) × (wait.cancelled ≡ true) =
    cancelled_so from.0.activity start wait (ap (λ (t : Thread). t.activity) from.2 ∙ w.waits) in
    (so.0, record { thread = from.0; there = from.1; waits = so.1 }, so.2)
