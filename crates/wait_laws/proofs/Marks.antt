-- In every history each thread that waits is in a wait that began there, and the wait is cancelled exactly where an Idle cancelled all
-- waits since.
use Rattle.std.proofs.Common.{◌≡◌, ℕ, ◌==◌, Bool, true, false, cond, List, [], ◌∷◌, ◌++◌, Option, Some, None, refl, ap, sym, subst}
use Rattle.std.specs.Option.{option_map}
use Rattle.kernel_values.specs.declared.call.Call.{Call}
use Rattle.kernel_values.specs.declared.entry.Entry.{Entry}
use Rattle.kernel_values.specs.declared.entry.Event.{Event}
use Rattle.kernel_values.specs.declared.entry.Event.TheVariants as event
use Rattle.kernel_values.specs.declared.reply.Answer.TheVariants as answer
use Rattle.kernel_values.specs.declared.state.CoreState.{CoreState}
use Rattle.kernel_values.specs.declared.state.State.{State}
use Rattle.kernel_values.specs.declared.state.Thread.{Thread}
use Rattle.kernel_values.specs.declared.state.Wait.{Wait}
use Rattle.kernel_types.proofs.Actors.{thread_is_thread}
use Rattle.kernel_types.specs.Applications.{is_over}
use Rattle.kernel_types.specs.Clients.{Acted}
use Rattle.kernel_types.specs.CoreStep.{act, core_begin, core_idle, core_resume, idle_answer}
use Rattle.kernel_types.specs.Device.{DeviceStep, device_step}
use Rattle.kernel_types.specs.History.{entry_of}
use Rattle.kernel_types.specs.Outcome.{Outcome, no_seqs}
use Rattle.kernel_types.specs.Step.{Stepped, beside_core, client_begin, client_number, client_resume, device_stepped, step, idle, idle_lawful, in_world, is_thread, next_deadline}
use Rattle.kernel_types.specs.Sweep.{sweep}
use Rattle.kernel_types.specs.Threads.{running_activity, with_activity}
use Rattle.step_laws.proofs.Acting.{DoesIf, act_goes}
use Rattle.step_laws.proofs.Leaving.{Quiet, sweep_leaves}
use Rattle.step_laws.proofs.Outcomes.{Acts}
use Rattle.step_laws.proofs.Steps.{acting, none_yet}
use Rattle.step_laws.proofs.TurnLeaving.{quiet_end}
use Rattle.wait_laws.proofs.Keeping.{WaitsAfter, acts_after, device_waited, own_start, ran_not}
use Rattle.wait_laws.proofs.Keeping.WaitsAfter.{began, waited}
use Rattle.run_laws.proofs.Longer.{entry_with}
use Rattle.wait_laws.proofs.Marking.{Marked, began_marked, cancelling, differ, silent}
use Rattle.wait_laws.proofs.Turning.{Called, Woken, called, mapped, only_if, woken}
use Rattle.wait_laws.proofs.Waiting.{IsWaiting, cancelled_waited, others_waited, running_never, same_waited}

abbrev pub AllMarked : List Entry → List Thread → Type 0
AllMarked entries threads = (k start : ℕ) (wait : Wait) → IsWaiting threads k start wait → Marked entries k start wait.cancelled

-- Steps.

module _ (entries : List Entry) (s : State) (old : AllMarked entries s.core.threads) where
  -- of a thread

  acts_of : (k start : ℕ) (asked : Call) (outcome : Outcome) → (b : Called s.core k start asked outcome) → (o : Option Outcome) → o ≡ Some b.inner → DoesIf b.found.app k s.core asked o
      → Acts b.found.app k asked s.core b.inner
  acts_of k start asked outcome b None is does = absurd (cc)
  acts_of k start asked outcome b (Some found) is does = subst (λ (x : Outcome). Acts b.found.app k asked s.core x) (let same : found ≡ b.inner = cc in same) does

  after_marked : (k start : ℕ) (asked : Call) (outcome : Outcome) (b : Called s.core k start asked outcome) (j since : ℕ) (wait : Wait) → IsWaiting b.inner.core.threads j since wait
      → WaitsAfter s.core k b.inner.answer j since wait → Marked (entries ++ entry_with (event.Begin (record { 0 = k }) start asked) b.inner.answer b.inner.seqs ∷ []) j since wait.cancelled
  after_marked k start asked outcome b j since wait now (waited w) =
      silent entries (entry_with (event.Begin (record { 0 = k }) start asked) b.inner.answer b.inner.seqs) j since wait.cancelled
      (differ k j (λ same. ran_not s.core k start b.found b.there b.ran since wait (subst (λ n. IsWaiting s.core.threads n since wait) same w)))
      refl (old j since wait w)
  after_marked k start asked outcome b j since wait now (began place said unmarked) =
      let entry : Entry = entry_with (event.Begin (record { 0 = k }) start asked) b.inner.answer b.inner.seqs in
      let by : since ≡ start = own_start s.core k start b.found b.there b.ran b.found.app asked b.inner b.done said since wait
      (subst (λ n. IsWaiting b.inner.core.threads n since wait) place now) in
      subst (λ n. Marked (entries ++ entry ∷ []) n since wait.cancelled) (sym place)
      (subst (λ n. Marked (entries ++ entry ∷ []) k n wait.cancelled) (sym by) (began_marked entries k start asked b.inner.answer b.inner.seqs said wait.cancelled unmarked))

  begin_marked : (k start : ℕ) (asked : Call) (outcome : Outcome) → Called s.core k start asked outcome
      → AllMarked (entries ++ entry_with (event.Begin (record { 0 = k }) start asked) outcome.answer outcome.seqs ∷ []) outcome.core.threads
  begin_marked k start asked outcome b =
      let acts : Acts b.found.app k asked s.core b.inner = acts_of k start asked outcome b (act s.core k b.found.app asked) b.done
      (act_goes b.found.app k s.core (acting s.core k b.found b.there (ap is_over b.ran)) s.core (none_yet (Some b.found.app) s.core) asked) in
      subst (λ (o : Outcome). AllMarked (entries ++ entry_with (event.Begin (record { 0 = k }) start asked) o.answer o.seqs ∷ []) o.core.threads) (sym b.ends) (λ j since wait w.
      let now : IsWaiting b.inner.core.threads j since wait =
      same_waited b.inner.core.threads (sweep b.inner.core).threads (sweep_leaves b.inner.core).threads j since wait w in
      after_marked k start asked outcome b j since wait now (acts_after b.found.app k asked s.core b.inner acts j since wait now))

  resume_marked : (k start : ℕ) (outcome : Outcome) → Woken s.core k start outcome
      → AllMarked (entries ++ entry_with (event.Resume (record { 0 = k }) start) outcome.answer outcome.seqs ∷ []) outcome.core.threads
  resume_marked k start outcome b =
      subst (λ (o : Outcome). AllMarked (entries ++ entry_with (event.Resume (record { 0 = k }) start) o.answer o.seqs ∷ []) o.core.threads) (sym b.ends) (λ j since wait w.
      let runs : CoreState = with_activity running_activity k b.inner.core in
      let q : Quiet s.core b.inner.core = quiet_end s.core b.found.app b.wait b.inner b.done in
      let others : (j ≡ k → ⊥) × IsWaiting b.inner.core.threads j since wait = others_waited running_activity running_never b.inner.core.threads k j since wait
      (same_waited runs.threads (sweep runs).threads (sweep_leaves runs).threads j since wait w) in
      silent entries (entry_with (event.Resume (record { 0 = k }) start) b.inner.answer b.inner.seqs) j since wait.cancelled (differ k j others.0) refl
      (old j since wait (same_waited s.core.threads b.inner.core.threads q.threads j since wait others.1)))

  -- of a client, which is no thread

  no_thread : (k j since : ℕ) (wait : Wait) → is_thread s k ≡ false → IsWaiting s.core.threads j since wait → (k == j) ≡ false
  no_thread k j since wait none w = differ k j (λ same. let here : is_thread s k ≡ true = subst (λ n. is_thread s n ≡ true) same (thread_is_thread s j w.thread w.there) in absurd (cc))

  client_begin_marked : (k start : ℕ) (asked : Call) (acted : Acted) → is_thread s k ≡ false
      → AllMarked (entries ++ entry_with (event.Begin (record { 0 = k }) start asked) acted.answer no_seqs ∷ []) s.core.threads
  client_begin_marked k start asked acted none j since wait w =
      silent entries (entry_with (event.Begin (record { 0 = k }) start asked) acted.answer no_seqs) j since wait.cancelled (no_thread k j since wait none w) refl (old j since wait w)

  client_resume_marked : (k start : ℕ) (acted : Acted) → is_thread s k ≡ false
      → AllMarked (entries ++ entry_with (event.Resume (record { 0 = k }) start) acted.answer no_seqs ∷ []) s.core.threads
  client_resume_marked k start acted none j since wait w =
      silent entries (entry_with (event.Resume (record { 0 = k }) start) acted.answer no_seqs) j since wait.cancelled (no_thread k j since wait none w) refl (old j since wait w)

  -- of whoever acts

  abbrev Marks : Event → Stepped → Type 0
  Marks e r = AllMarked (entries ++ entry_of e r ∷ []) r.state.core.threads

  begin_by : (k start : ℕ) (asked : Call) (r : Stepped) (b : Bool) → is_thread s k ≡ b
      → cond b (option_map (in_world s.world) (core_begin s.core k start asked)) (option_map (beside_core s.core) (client_begin s (client_number s k) start asked)) ≡ Some r
      → Marks (event.Begin (record { 0 = k }) start asked) r
  begin_by k start asked r true here is =
      let out : (o : Outcome) × (core_begin s.core k start asked ≡ Some o) × (r ≡ in_world s.world o) = mapped (in_world s.world) (core_begin s.core k start asked) r is in
      subst (λ (x : Stepped). Marks (event.Begin (record { 0 = k }) start asked) x) (sym out.2) (begin_marked k start asked out.0 (called s.core k start asked out.0 out.1))
  begin_by k start asked r false none is =
      let out : (o : Acted) × (client_begin s (client_number s k) start asked ≡ Some o) × (r ≡ beside_core s.core o) =
      mapped (beside_core s.core) (client_begin s (client_number s k) start asked) r is in
      subst (λ (x : Stepped). Marks (event.Begin (record { 0 = k }) start asked) x) (sym out.2) (client_begin_marked k start asked out.0 none)

  resume_by : (k start : ℕ) (r : Stepped) (b : Bool) → is_thread s k ≡ b
      → cond b (option_map (in_world s.world) (core_resume s.core k start)) (option_map (beside_core s.core) (client_resume s (client_number s k) start)) ≡ Some r
      → Marks (event.Resume (record { 0 = k }) start) r
  resume_by k start r true here is =
      let out : (o : Outcome) × (core_resume s.core k start ≡ Some o) × (r ≡ in_world s.world o) = mapped (in_world s.world) (core_resume s.core k start) r is in
      subst (λ (x : Stepped). Marks (event.Resume (record { 0 = k }) start) x) (sym out.2) (resume_marked k start out.0 (woken s.core k start out.0 out.1))
  resume_by k start r false none is =
      let out : (o : Acted) × (client_resume s (client_number s k) start ≡ Some o) × (r ≡ beside_core s.core o) =
      mapped (beside_core s.core) (client_resume s (client_number s k) start) r is in
      subst (λ (x : Stepped). Marks (event.Resume (record { 0 = k }) start) x) (sym out.2) (client_resume_marked k start out.0 none)

  -- of the device

  device_by : (r : Stepped) → option_map device_stepped (device_step s) ≡ Some r → Marks event.Device r
  device_by r is =
      let out : (done : DeviceStep) × (device_step s ≡ Some done) × (r ≡ device_stepped done) = mapped device_stepped (device_step s) r is in
      subst (λ (x : Stepped). Marks event.Device x) (sym out.2) (λ j since wait w.
      silent entries (entry_of event.Device (device_stepped out.0)) j since wait.cancelled refl refl (old j since wait (device_waited s out.0 out.1 j since wait w)))

  -- and Idle

  idle_marked : (deadline : Option ℕ) (j since : ℕ) (wait : Wait) → IsWaiting (core_idle deadline s.core).threads j since wait
      → Marked (entries ++ entry_with event.Idle (idle_answer deadline) no_seqs ∷ []) j since wait.cancelled
  unfolding core_idle
  idle_marked (Some deadline) j since wait w = silent entries (entry_with event.Idle (answer.Clock deadline) no_seqs) j since wait.cancelled refl refl (old j since wait w)
  idle_marked None j since wait w =
      let from : (was : Wait) × IsWaiting s.core.threads j since was × (wait.cancelled ≡ true) = cancelled_waited s.core.threads j since wait w in
      cancelling entries (entry_with event.Idle answer.CancelAll no_seqs) j since from.0.cancelled wait.cancelled refl refl from.2 (old j since from.0 from.1)

  idle_by : (r : Stepped) → cond (idle_lawful s) (Some (idle s)) None ≡ Some r → Marks event.Idle r
  idle_by r is =
      let lawful : (idle_lawful s ≡ true) × (Some (idle s) ≡ Some r) = only_if (idle_lawful s) (Some (idle s)) r is in
      let same : idle s ≡ r = let both : Some (idle s) ≡ Some r = lawful.1 in cc in
      let gone : CoreState = core_idle (next_deadline s) s.core in
      subst (λ (x : Stepped). Marks event.Idle x) same (λ j since wait w.
      idle_marked (next_deadline s) j since wait (same_waited gone.threads (sweep gone).threads (sweep_leaves gone).threads j since wait w))

  pub step_marks : (e : Event) (r : Stepped) → step s e ≡ Some r → Marks e r
  unfolding step
  step_marks (event.Begin actor start asked) r is =
      begin_by actor.0 start asked r (is_thread s actor.0) refl is
  step_marks (event.Resume actor start) r is = resume_by actor.0 start r (is_thread s actor.0) refl is
  step_marks event.Device r is = device_by r is
  step_marks event.Idle r is = idle_by r is
