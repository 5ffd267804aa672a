-- No step of a thread or of the device brings a deadline that is not near.
use Rattle.std.proofs.Common.{◌≡◌, ℕ, zero, suc, ◌+◌, ◌==◌, true, false, cond, not, List, [], ◌∷◌, map, Option, Some, None, refl, sym, ◌∙◌, ap, subst, arith}
use Rattle.std.specs.Prelude.{slice_get, slice_set, Result, Ok, Err}
use Rattle.std.specs.List.{AllByRecursion, fold}
use Rattle.std.specs.Option.{option_map}
use Rattle.kernel_values.specs.declared.call.Call.{Call}
use Rattle.kernel_values.specs.declared.call.Call.TheVariants as call
use Rattle.kernel_values.specs.declared.call.Timeout.{Timeout}
use Rattle.kernel_values.specs.declared.call.Timeout.TheVariants as timeout
use Rattle.kernel_values.specs.declared.errno.Errno.{Errno}
use Rattle.kernel_values.specs.declared.errno.Errno.TheVariants as errno
use Rattle.kernel_values.specs.declared.reply.Answer.{Answer}
use Rattle.kernel_values.specs.declared.state.Activity.{Activity}
use Rattle.kernel_values.specs.declared.state.Activity.TheVariants as activity
use Rattle.kernel_values.specs.declared.state.Application.{Application}
use Rattle.kernel_values.specs.declared.state.Connector.TheVariants as connector
use Rattle.kernel_values.specs.declared.state.CoreState.{CoreState}
use Rattle.kernel_values.specs.declared.state.Thread.{Thread}
use Rattle.kernel_values.specs.declared.state.WaitOn.{WaitOn}
use Rattle.kernel_types.specs.Applications.{application_ended, ended_activity, ended_thread, is_started_again, started, started_as, started_thread, thread_ended, without_app}
use Rattle.kernel_types.specs.Bridge.{bridging, ns_connect, ns_connect_by, ns_drop, ns_push, ns_take}
use Rattle.kernel_types.specs.Device.{entry_dropped}
use Rattle.kernel_types.specs.Connects.{Way, to_port, to_start, to_nothing, pending_pair, started_unless_running, waiting_client, way_of}
use Rattle.kernel_types.specs.CoreStep.{core_begin, core_resume}
use Rattle.kernel_types.specs.Objects.{map_at, set_if}
use Rattle.kernel_types.specs.Outcome.{Outcome}
use Rattle.kernel_types.specs.Ports.{admits}
use Rattle.kernel_types.specs.Sweep.{sweep}
use Rattle.kernel_types.specs.Threads.{activity_changed, new_wait, running_activity, waiting_activity, with_activity}
use Rattle.kernel_types.specs.Waits.{deadline_of, wait}
use Rattle.step_laws.specs.Walks.{Awaits, ThreadChange, after_thread, timeout_of}
use Rattle.step_laws.specs.Walks.Awaits.{for_any, for_connect, for_object}
use Rattle.step_laws.specs.Walks.ThreadChange.{app_over, app_started, member_added, set_made, thread_over, wait_begun}
use Rattle.step_laws.proofs.BridgeLeaving.{drop_calm, drops_calm, push_leaves, take_leaves}
use Rattle.step_laws.proofs.Bridged.{OfDevice}
use Rattle.step_laws.proofs.Leaving.{Calm, calm_of, row_leaves, sweep_leaves}
use Rattle.step_laws.proofs.Outcomes.{Acts}
use Rattle.step_laws.proofs.Rows.{row_keeps}
use Rattle.step_laws.proofs.Turns.{Begun, Resumed, begun_by, resumed_by}
use Rattle.ns_bridge.specs.Timely.{AreInTime, IsInTime, IsNear, IsNearOn, IsShort, IsShortCall, IsTimely}

-- changes in a list

module _ {X : Type 0} (P : X → Type 0) (f : X → X) (keeps : (x : X) → P x → P (f x)) where
  pub all_changed : (xs : List X) → AllByRecursion P xs → AllByRecursion P (map f xs)
  all_changed [] k = tt
  all_changed (x ∷ xs) k = (keeps x k.0, all_changed xs k.1)

  set_in : (xs : List X) (at : ℕ) (x : X) → slice_get xs at ≡ Some x → AllByRecursion P xs → AllByRecursion P (slice_set xs at (f x))
  set_in [] at x is k = tt
  set_in (first ∷ xs) zero x is k = let found : first ≡ x = cc in (keeps x (subst P found k.0), k.1)
  set_in (first ∷ xs) (suc at) x is k = (k.0, set_in xs at x is k.1)

  changed_by : (xs : List X) (at : ℕ) (found : Option X) → slice_get xs at ≡ found → AllByRecursion P xs → AllByRecursion P (set_if xs at (option_map f found))
  changed_by xs at None is k = k
  changed_by xs at (Some x) is k = set_in xs at x is k

  pub one_changed : (xs : List X) (at : ℕ) → AllByRecursion P xs → AllByRecursion P (map_at f xs at)
  one_changed xs at k = changed_by xs at (slice_get xs at) refl k

abbrev in_time : ℕ → Thread → Type 0
in_time clock thread = IsInTime clock thread.activity

started_in_time : (clock app start : ℕ) (thread : Thread) → IsInTime clock thread.activity → IsInTime clock (started_thread app start thread).activity
started_in_time clock app start thread k =
    elim (thread.app == app) as (λ b. IsInTime clock (cond b (record thread { activity = activity.Running start }) thread).activity) [ true ↦ tt | false ↦ k ]

ended_in_time : (clock : ℕ) (a : Activity) → IsInTime clock (ended_activity a)
ended_in_time clock activity.Off = tt
ended_in_time clock (activity.Running start) = tt
ended_in_time clock (activity.Waiting start wait) = tt
ended_in_time clock (activity.Ended start) = tt

all_ended_in_time : (clock app : ℕ) (thread : Thread) → IsInTime clock thread.activity → IsInTime clock (ended_thread app thread).activity
all_ended_in_time clock app thread k =
    elim (thread.app == app) as (λ b. IsInTime clock (cond b (record thread { activity = ended_activity thread.activity }) thread).activity) [
      | true ↦ ended_in_time clock thread.activity
      | false ↦ k
    ]

running_in_time : (clock : ℕ) (a : Activity) → IsInTime clock a → IsInTime clock (running_activity a)
running_in_time clock activity.Off k = tt
running_in_time clock (activity.Running start) k = tt
running_in_time clock (activity.Waiting start wait) k = tt
running_in_time clock (activity.Ended start) k = tt

waiting_in_time : (clock : ℕ) (on : WaitOn) (deadline : Option ℕ) → IsNearOn clock on deadline → (a : Activity) → IsInTime clock a → IsInTime clock (waiting_activity (new_wait on deadline) a)
waiting_in_time clock on deadline near activity.Off k = tt
waiting_in_time clock on deadline near (activity.Running start) k = near
waiting_in_time clock on deadline near (activity.Waiting start wait) k = k
waiting_in_time clock on deadline near (activity.Ended start) k = tt

pub near_after : (clock : ℕ) (timeout : Timeout) → IsShort timeout → IsNear clock (deadline_of clock timeout)
near_after clock timeout.Forever short = tt
near_after clock (timeout.Millis millis) short = omega (arith, short)

-- the timeout that a call names is short where the call is
short_timeout : (asked : Call) → IsShortCall asked → IsShort (timeout_of asked)
short_timeout (call.Wait handle timeout) short = short
short_timeout (call.WaitAny timeout) short = short
short_timeout _ short = tt

pub record StaysInTime (clock : ℕ) (outcome : Outcome) : Type 0 where
  pub kept : IsTimely clock outcome.core

abbrev pub KeepsIf : ℕ → Option Outcome → Type 0
KeepsIf clock None = Unit {0}
KeepsIf clock (Some outcome) = StaysInTime clock outcome

module _ (clock : ℕ) where
  pub calm_keeps : (c d : CoreState) → Calm c d → IsTimely clock c → IsTimely clock d
  calm_keeps c d q k = record { clock_is = q.clock ∙ k.clock_is; threads = subst (λ (ts : List Thread). AreInTime clock ts) (sym q.threads) k.threads }

  begun_keeps : (app : ℕ) (c : CoreState) → IsTimely clock c → IsTimely clock (started app c)
  unfolding started
  begun_keeps app c k =
      elim (slice_get c.apps app) as (λ o. IsTimely clock (started_as app o c)) [
        | None ↦ k
        | Some was ↦ record { clock_is = k.clock_is; threads = all_changed (in_time clock) (started_thread app (was.starts + 1)) (started_in_time clock app (was.starts + 1)) c.threads k.threads }
      ]

  over_keeps : (app : ℕ) (c : CoreState) → IsTimely clock c → IsTimely clock (application_ended app c)
  unfolding application_ended
  over_keeps app c k =
      let less : IsTimely clock (without_app app c) = record { clock_is = k.clock_is; threads = all_changed (in_time clock) (ended_thread app) (all_ended_in_time clock app) c.threads k.threads } in
      elim (is_started_again (slice_get c.apps app)) as (λ b. IsTimely clock (cond b (started app (without_app app c)) (without_app app c))) [
        | true ↦ begun_keeps app (without_app app c) less
        | false ↦ less
      ]

  served_keeps : (place : ℕ) (app : Option Application) (c : CoreState) → IsTimely clock c → IsTimely clock (started_unless_running place app c)
  served_keeps place None c k = k
  served_keeps place (Some app) c k = elim app.running as (λ b. IsTimely clock (cond b c (started place c))) [ true ↦ k | false ↦ begun_keeps place c k ]

  -- calls

  awaited_near : (app : ℕ) (asked : Call) (c : CoreState) (on : WaitOn) → Awaits app asked c on → IsNear clock (deadline_of c.clock (timeout_of asked)) → IsNearOn clock on (deadline_of c.clock (timeout_of asked))
  awaited_near app asked c on (for_object handle entry there same) near = subst (λ (w : WaitOn). IsNearOn clock w (deadline_of c.clock (timeout_of asked))) (sym same) near
  awaited_near app asked c on (for_any same) near = subst (λ (w : WaitOn). IsNearOn clock w (deadline_of c.clock (timeout_of asked))) (sym same) near
  awaited_near app asked c on (for_connect end handle given same forever) near =
      subst (λ (w : WaitOn). IsNearOn clock w (deadline_of c.clock (timeout_of asked))) (sym same) (ap (deadline_of c.clock) forever)

  call_keeps : (app thread : ℕ) (asked : Call) → IsShort (timeout_of asked) → (said : Answer) (c : CoreState) → IsTimely clock c → (change : ThreadChange app thread asked said c)
      → IsTimely clock (after_thread app thread asked said c change)
  call_keeps app thread asked short said c k (set_made is made room) = record { clock_is = k.clock_is; threads = k.threads }
  call_keeps app thread asked short said c k (member_added held handle mask cookie id set entry is here may) = record { clock_is = k.clock_is; threads = k.threads }
  call_keeps app thread asked short said c k (wait_begun on awaits goes is) =
      let near : IsNear clock (deadline_of c.clock (timeout_of asked)) = subst (λ (n : ℕ). IsNear clock (deadline_of n (timeout_of asked))) (sym k.clock_is) (near_after clock (timeout_of asked) short) in
      record {
        clock_is = k.clock_is;
        threads = one_changed (in_time clock) (activity_changed (waiting_activity (new_wait on (deadline_of c.clock (timeout_of asked)))))
            (λ t m. waiting_in_time clock on (deadline_of c.clock (timeout_of asked)) (awaited_near app asked c on awaits near) t.activity m) c.threads thread k.threads;
      }
  call_keeps app thread asked short said c k (app_started place was there still connects) = begun_keeps place c k
  call_keeps app thread asked short said c k (thread_over ends) = record { clock_is = k.clock_is; threads = one_changed (in_time clock) thread_ended (λ t m. ended_in_time clock t.activity) c.threads thread k.threads }
  call_keeps app thread asked short said c k (app_over ends) = over_keeps app c k

  acts_keep : (app thread : ℕ) (asked : Call) → IsShort (timeout_of asked) → (c : CoreState) (outcome : Outcome) → Acts app thread asked c outcome → IsTimely clock c → IsTimely clock outcome.core
  acts_keep app thread asked short c outcome acts k =
      row_keeps (ThreadChange app thread asked outcome.answer) (after_thread app thread asked outcome.answer) (IsTimely clock) (call_keeps app thread asked short outcome.answer)
      acts.middle outcome.core acts.changes (calm_keeps c acts.middle (calm_of c acts.middle (row_leaves (Some app) c acts.middle acts.walk.row)) k)

  swept_keeps : (c : CoreState) → IsTimely clock c → IsTimely clock (sweep c)
  swept_keeps c k = calm_keeps c (sweep c) (calm_of c (sweep c) (sweep_leaves c)) k

  keeps_if : (o : Option Outcome) → ((outcome : Outcome) → o ≡ Some outcome → IsTimely clock outcome.core) → KeepsIf clock o
  keeps_if None kept = tt
  keeps_if (Some outcome) kept = record { kept = kept outcome refl }

  pub begin_keeps : (c : CoreState) → IsTimely clock c → (thread start : ℕ) (asked : Call) → IsShortCall asked → KeepsIf clock (core_begin c thread start asked)
  begin_keeps c k thread start asked short = keeps_if (core_begin c thread start asked) (λ outcome is.
      let begun : Begun c thread start asked outcome = begun_by c thread start asked outcome is in
      subst (λ (o : Outcome). IsTimely clock o.core) (sym begun.ends)
      (swept_keeps begun.inner.core (acts_keep begun.found.app thread asked (short_timeout asked short) c begun.inner begun.acts k)))

  pub resume_keeps : (c : CoreState) → IsTimely clock c → (thread start : ℕ) → KeepsIf clock (core_resume c thread start)
  resume_keeps c k thread start = keeps_if (core_resume c thread start) (λ outcome is.
      let over : Resumed c thread start outcome = resumed_by c thread start outcome is in
      let there : CoreState = over.inner.core in
      let here : IsTimely clock there = calm_keeps c there (calm_of c there (row_leaves (Some over.found.app) c there over.comes.walk.row)) k in
      let ran : IsTimely clock (with_activity running_activity thread there) = record {
        clock_is = here.clock_is;
        threads = one_changed (in_time clock) (activity_changed running_activity) (λ t m. running_in_time clock t.activity m) there.threads thread here.threads;
      } in
      subst (λ (o : Outcome). IsTimely clock o.core) (sym over.ends) (swept_keeps (with_activity running_activity thread there) ran))

  -- what the device does to the core

  abbrev pub MadeKeeps : Result CoreState Errno → Type 0
  MadeKeeps (Err errno) = Unit {0}
  MadeKeeps (Ok made) = IsTimely clock made

  ns_way_keeps : (way : Way) (c : CoreState) → IsTimely clock c → (path : List ℕ) → MadeKeeps (ns_connect_by way c path)
  ns_way_keeps (to_port id port) c t path =
      let made : CoreState = bridging c.next (pending_pair connector.NormalWorld id port c) in
      let keeps : IsTimely clock (sweep made) = swept_keeps made (calm_keeps c made (record { threads = refl; clock = refl; starts = refl }) t) in
      elim (not (admits port.flags connector.NormalWorld)) as (λ b. MadeKeeps (cond b (Err errno.AccessDenied) (Ok (sweep made)))) [ true ↦ tt | false ↦ keeps ]
  ns_way_keeps (to_start place start) c t path =
      let waits : CoreState = bridging c.next (waiting_client connector.NormalWorld path c) in
      let made : CoreState = started_unless_running place (slice_get c.apps place) waits in
      let there : IsTimely clock made = served_keeps place (slice_get c.apps place) waits (calm_keeps c waits (record { threads = refl; clock = refl; starts = refl }) t) in
      elim (not (admits start connector.NormalWorld)) as (λ b. MadeKeeps (cond b (Err errno.AccessDenied) (Ok (sweep made))))
      [ true ↦ tt | false ↦ swept_keeps made there ]
  ns_way_keeps to_nothing c t path = tt

  pub made_keeps : (r : Result CoreState Errno) (made : CoreState) → MadeKeeps r → r ≡ Ok made → IsTimely clock made
  made_keeps (Err errno) made keeps is = absurd (cc)
  made_keeps (Ok other) made keeps is = let same : other ≡ made = cc in subst (λ (d : CoreState). IsTimely clock d) same keeps

  pub ns_connect_keeps : (c : CoreState) → IsTimely clock c → (path : List ℕ) → MadeKeeps (ns_connect c path)
  unfolding ns_connect
  ns_connect_keeps c t path = ns_way_keeps (way_of c path) c t path

  unfoldable pub of_device : (c : CoreState) → IsTimely clock c → OfDevice c
  of_device c t = record {
    holds = λ change. IsTimely clock change.core;
    left = t;
    connected = λ path made is. made_keeps (ns_connect c path) made (ns_connect_keeps c t path) is;
    pushed = λ end bytes few. calm_keeps c (ns_push c end bytes).core (calm_of c (ns_push c end bytes).core (push_leaves c end bytes)) t;
    taken = λ end. calm_keeps c (ns_take c end).core (calm_of c (ns_take c end).core (take_leaves c end)) t;
    dropped = λ end. calm_keeps c (ns_drop false end c) (drop_calm c false end) t;
    broke = λ entries. calm_keeps c (fold entry_dropped c entries) (drops_calm c entries) t;
  }
