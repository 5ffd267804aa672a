-- Which threads wait after a step of the whole kernel: those that waited before, but for the thread that acts.
use Rattle.std.proofs.Common.{◌≡◌, ℕ, Bool, true, false, cond, List, not, Option, Some, None, refl, ap, sym, ◌∙◌, subst, inl, inr}
use Rattle.std.specs.Prelude.{◌⊎◌, slice_get, Result, Ok, Err}
use Rattle.std.specs.List.{fold}
use Rattle.kernel_values.specs.declared.call.Call.{Call}
use Rattle.kernel_values.specs.declared.call.Call.TheVariants as call
use Rattle.kernel_values.specs.declared.errno.Errno.{Errno}
use Rattle.kernel_values.specs.declared.reply.Answer.{Answer}
use Rattle.kernel_values.specs.declared.reply.Answer.TheVariants as answer
use Rattle.kernel_values.specs.declared.state.Activity.TheVariants as activity
use Rattle.kernel_values.specs.declared.state.Application.{Application}
use Rattle.kernel_values.specs.declared.state.Connector.TheVariants as connector
use Rattle.kernel_values.specs.declared.state.CoreState.{CoreState}
use Rattle.kernel_values.specs.declared.state.State.{State}
use Rattle.kernel_values.specs.declared.state.Thread.{Thread}
use Rattle.kernel_values.specs.declared.state.Wait.{Wait}
use Rattle.kernel_types.specs.Applications.{ended_activity, exit, finish, started}
use Rattle.kernel_types.specs.Bridge.{bridging, ns_connect, ns_connect_by, ns_drop, ns_push, ns_take}
use Rattle.kernel_types.specs.Connects.{Way, to_port, to_start, to_nothing, pending_pair, started_unless_running, waiting_client, way_of}
use Rattle.kernel_types.specs.CoreStep.{act}
use Rattle.kernel_types.specs.Device.{DeviceStep, device_step, entry_dropped}
use Rattle.kernel_types.specs.Objects.{map_at}
use Rattle.kernel_types.specs.Outcome.{Outcome}
use Rattle.kernel_types.specs.Ports.{admits}
use Rattle.kernel_types.specs.Sweep.{sweep}
use Rattle.kernel_types.specs.Threads.{activity_changed, new_wait, waiting_activity}
use Rattle.kernel_types.specs.Waits.{deadline_of}
use Rattle.step_laws.specs.Walks.{ThreadChange, after_thread, is_ending, timeout_of}
use Rattle.step_laws.specs.Walks.ThreadChange.{app_over, app_started, member_added, set_made, thread_over, wait_begun}
use Rattle.step_laws.proofs.Bridged.{DeviceKeeps, DeviceKeepsIf, OfDevice, device_keeps}
use Rattle.step_laws.proofs.BridgeLeaving.{drop_calm, drops_calm, push_leaves, take_leaves}
use Rattle.step_laws.proofs.Leaving.{Quiet, row_leaves, sweep_leaves}
use Rattle.step_laws.proofs.Outcomes.{Acts}
use Rattle.step_laws.proofs.Rows.{row_keeps}
use Rattle.run_laws.proofs.Acting.{Upheld, act_upholds}
use Rattle.wait_laws.proofs.Waiting.{BeganAt, IsWaiting, WaitedIn, ended_never, others_waited, over_waited, same_waited, started_waited, waits_or_began}

-- A step of the device: a connect of the normal world may start an application, and all else leaves the threads.

served : (place : ℕ) (app : Option Application) (c : CoreState) → WaitedIn c.threads (started_unless_running place app c).threads
served place None c k start wait = λ w. w
served place (Some app) c k start wait =
    elim app.running as (λ b. IsWaiting (cond b c (started place c)).threads k start wait → IsWaiting c.threads k start wait) [
      | true ↦ (λ w. w)
      | false ↦ (λ w. started_waited place c k start wait w)
    ]

abbrev WaitedIf : CoreState → Result CoreState Errno → Type 0
WaitedIf c (Ok made) = WaitedIn c.threads made.threads
WaitedIf c (Err errno) = Unit {0}

admitted : (c : CoreState) (b : Bool) (errno : Errno) (made : CoreState) → WaitedIn c.threads made.threads → WaitedIf c (cond b (Err errno) (Ok made))
admitted c true errno made waited = tt
admitted c false errno made waited = waited

and_swept : (c d : CoreState) → WaitedIn c.threads d.threads → WaitedIn c.threads (sweep d).threads
and_swept c d waited k start wait w = waited k start wait (same_waited d.threads (sweep d).threads (sweep_leaves d).threads k start wait w)

connect_by : (way : Way) (c : CoreState) (path : List ℕ) → WaitedIf c (ns_connect_by way c path)
connect_by (to_port id port) c path =
    let d : CoreState = bridging c.next (pending_pair connector.NormalWorld id port c) in
    admitted c (not (admits port.flags connector.NormalWorld)) _ (sweep d) (and_swept c d (λ k start wait w. w))
connect_by (to_start place start) c path =
    let d : CoreState = bridging c.next (waiting_client connector.NormalWorld path c) in
    let begun : CoreState = started_unless_running place (slice_get c.apps place) d in
    admitted c (not (admits start connector.NormalWorld)) _ (sweep begun) (and_swept c begun (served place (slice_get c.apps place) d))
connect_by to_nothing c path = tt

connected : (c : CoreState) (path : List ℕ) (made : CoreState) → ns_connect c path ≡ Ok made → WaitedIn c.threads made.threads
unfolding ns_connect
connected c path made is = subst (λ (r : Result CoreState Errno). WaitedIf c r) is (connect_by (way_of c path) c path)

of_device : (c : CoreState) → OfDevice c
of_device c = record {
  holds = λ change. WaitedIn c.threads change.core.threads;
  left = λ k start wait w. w;
  connected = connected c;
  pushed = λ end bytes few. same_waited c.threads (ns_push c end bytes).core.threads (push_leaves c end bytes).threads;
  taken = λ end. same_waited c.threads (ns_take c end).core.threads (take_leaves c end).threads;
  dropped = λ end. same_waited c.threads (ns_drop false end c).threads (drop_calm c false end).threads;
  broke = λ gone. same_waited c.threads (fold entry_dropped c gone).threads (drops_calm c gone).threads;
}

pub device_waited : (s : State) (done : DeviceStep) → device_step s ≡ Some done → WaitedIn s.core.threads done.state.core.threads
unfolding of_device
device_waited s done is =
    let K : OfDevice s.core = of_device s.core in
    let keeps : DeviceKeeps s K done = subst (λ (o : Option DeviceStep). DeviceKeepsIf s K o) is (device_keeps s K) in
    keeps.kept

-- A call of the thread `at`: who waits after it waited before, or is the thread itself, with an answer that says so and a wait that is
-- not cancelled.

pub data WaitsAfter (c : CoreState) (at : ℕ) (said : Answer) (k start : ℕ) (wait : Wait) : Type 0 where
  waited : IsWaiting c.threads k start wait → WaitsAfter c at said k start wait
  began : k ≡ at → said ≡ answer.Waits → wait.cancelled ≡ false → WaitsAfter c at said k start wait

abbrev AfterAll : CoreState → ℕ → Answer → CoreState → Type 0
AfterAll c at said d = (k start : ℕ) (wait : Wait) → IsWaiting d.threads k start wait → WaitsAfter c at said k start wait

began_after : (c b : CoreState) (at : ℕ) (said : Answer) (new : Wait) → new.cancelled ≡ false → said ≡ answer.Waits → AfterAll c at said b → (k start : ℕ) (wait : Wait)
    → IsWaiting b.threads k start wait ⊎ BeganAt b.threads at k start new wait → WaitsAfter c at said k start wait
began_after c b at said new unmarked is all k start wait (inl w) = all k start wait w
began_after c b at said new unmarked is all k start wait (inr p) = began p.place is (ap (λ (x : Wait). x.cancelled) p.wait_is ∙ unmarked)

change_after : (app at : ℕ) (asked : Call) (said : Answer) (c b : CoreState) → AfterAll c at said b → (change : ThreadChange app at asked said b)
    → AfterAll c at said (after_thread app at asked said b change)
change_after app at asked said c b all (set_made is made room) = all
change_after app at asked said c b all (member_added held handle mask cookie id set entry is here may) = all
change_after app at asked said c b all (wait_begun on awaits goes is) = λ k start wait w.
    let new : Wait = new_wait on (deadline_of b.clock (timeout_of asked)) in
    began_after c b at said new refl is all k start wait (waits_or_began new b.threads at k start wait w)
change_after app at asked said c b all (app_started place was there still connects) = λ k start wait w. all k start wait (started_waited place b k start wait w)
change_after app at asked said c b all (thread_over ends) = λ k start wait w. all k start wait (others_waited ended_activity ended_never b.threads at k start wait w).1
change_after app at asked said c b all (app_over ends) = λ k start wait w. all k start wait (over_waited app b k start wait w)

pub acts_after : (app at : ℕ) (asked : Call) (c : CoreState) (outcome : Outcome) → Acts app at asked c outcome → AfterAll c at outcome.answer outcome.core
acts_after app at asked c outcome acts =
    row_keeps (ThreadChange app at asked outcome.answer) (after_thread app at asked outcome.answer) (λ (d : CoreState). AfterAll c at outcome.answer d)
    (change_after app at asked outcome.answer c) acts.middle outcome.core acts.changes
    (λ k start wait w. waited (same_waited c.threads acts.middle.threads (row_leaves (Some app) c acts.middle acts.walk.row).threads k start wait w))

-- The thread itself waits by the start by which it called.

module _ (c : CoreState) (at start : ℕ) (thread : Thread) (there : slice_get c.threads at ≡ Some thread) (ran : thread.activity ≡ activity.Running start) where
  pub ran_not : (since : ℕ) (wait : Wait) → IsWaiting c.threads at since wait → ⊥
  ran_not since wait w =
      let same : w.thread ≡ thread = let one : slice_get c.threads at ≡ Some w.thread = w.there in cc in
      let both : activity.Running start ≡ activity.Waiting since wait = sym ran ∙ (ap (λ (t : Thread). t.activity) (sym same) ∙ w.waits) in
      absurd (cc)

  quiet_start : (d : CoreState) → Quiet c d → (since : ℕ) (wait : Wait) → IsWaiting d.threads at since wait → since ≡ start
  quiet_start d q since wait w = absurd (ran_not since wait (same_waited c.threads d.threads q.threads at since wait w))

  began_start : (new : Wait) (since : ℕ) (wait : Wait) → IsWaiting c.threads at since wait ⊎ BeganAt c.threads at at since new wait → since ≡ start
  began_start new since wait (inl w) = absurd (ran_not since wait w)
  began_start new since wait (inr p) =
      let same : p.thread ≡ thread = let one : slice_get c.threads at ≡ Some p.thread = p.there in cc in
      let both : activity.Running start ≡ activity.Running since = sym ran ∙ (ap (λ (t : Thread). t.activity) (sym same) ∙ p.ran) in
      cc

  by_start : Upheld c at
  by_start = record {
    holds = λ given d. (since : ℕ) (wait : Wait) → IsWaiting d.threads at since wait → since ≡ start;
    quiet = λ given d final q since wait w. quiet_start d q since wait w;
    waits = λ d new q since wait w. began_start new since wait
        (waits_or_began new c.threads at at since wait (subst (λ (ts : List Thread). IsWaiting (map_at (activity_changed (waiting_activity new)) ts at) at since wait) q.threads w));
    begun = λ given d app u since wait w. u since wait (started_waited app d at since wait w);
  }

  ending_answers : (app : ℕ) (asked : Call) (outcome : Outcome) → is_ending asked ≡ true → act c at app asked ≡ Some outcome → outcome.answer ≡ answer.Waits → ⊥
  unfolding act exit finish
  ending_answers app (call.Exit code) outcome ends is said = absurd (cc)
  ending_answers app call.Finish outcome ends is said = absurd (cc)
  ending_answers app _ outcome ends is said = absurd (cc)

  start_by : (app : ℕ) (asked : Call) (outcome : Outcome) (b : Bool) → is_ending asked ≡ b → act c at app asked ≡ Some outcome → outcome.answer ≡ answer.Waits
      → (since : ℕ) (wait : Wait) → IsWaiting outcome.core.threads at since wait → since ≡ start
  unfolding by_start
  start_by app asked outcome true ends is said since wait w = absurd (ending_answers app asked outcome ends is said)
  start_by app asked outcome false goes is said since wait w = act_upholds c at by_start app asked outcome goes is since wait w

  pub own_start : (app : ℕ) (asked : Call) (outcome : Outcome) → act c at app asked ≡ Some outcome → outcome.answer ≡ answer.Waits
      → (since : ℕ) (wait : Wait) → IsWaiting outcome.core.threads at since wait → since ≡ start
  own_start app asked outcome is said since wait w = start_by app asked outcome (is_ending asked) refl is said since wait w
