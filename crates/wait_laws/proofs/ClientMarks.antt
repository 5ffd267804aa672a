-- In every history each client that waits is in a wait that began there, and the wait is cancelled exactly where an Idle cancelled all
-- waits since.
use Rattle.std.proofs.Common.{◌≡◌, ℕ, ◌+◌, ◌-◌, ◌==◌, Bool, true, false, cond, List, [], ◌∷◌, ◌++◌, length, Option, Some, None, refl, ap, sym, ◌∙◌, subst, arith, inl, inr}
use Rattle.std.proofs.lemmas.Bool.Decides.{nat_tests}
use Rattle.std.specs.Prelude.{◌⊎◌, nat_lt, slice_get}
use Rattle.std.specs.Option.{option_map}
use Rattle.kernel_values.specs.declared.call.Call.{Call}
use Rattle.kernel_values.specs.declared.entry.Entry.{Entry}
use Rattle.kernel_values.specs.declared.entry.Event.{Event}
use Rattle.kernel_values.specs.declared.entry.Event.TheVariants as event
use Rattle.kernel_values.specs.declared.reply.Answer.{Answer}
use Rattle.kernel_values.specs.declared.reply.Answer.TheVariants as answer
use Rattle.kernel_values.specs.declared.state.State.{State}
use Rattle.kernel_values.specs.declared.world.ClientActivity.{ClientActivity}
use Rattle.kernel_values.specs.declared.world.ClientActivity.TheVariants as activity
use Rattle.kernel_values.specs.declared.world.ClientState.{ClientState}
use Rattle.kernel_values.specs.declared.world.ClientWait.{ClientWait}
use Rattle.kernel_types.specs.Clients.{Acted, client_cancelled, client_changed, client_ended, client_running, client_waiting}
use Rattle.kernel_types.specs.CoreStep.{core_begin, core_resume, idle_answer}
use Rattle.kernel_types.specs.Device.{DeviceStep, device_step}
use Rattle.kernel_types.specs.History.{entry_of}
use Rattle.kernel_types.specs.Objects.{map_at}
use Rattle.kernel_types.specs.Outcome.{Outcome, no_seqs}
use Rattle.kernel_types.specs.Step.{Stepped, beside_core, client_begin, client_number, client_resume, device_stepped, step, idle, idle_lawful, in_world, is_thread, next_deadline, world_idle}
use Rattle.step_laws.proofs.Bridged.{DeviceKeeps, DeviceKeepsIf, any_change, device_keeps}
use Rattle.run_laws.proofs.ClientSteps.{end_same, is_no_thread}
use Rattle.run_laws.proofs.Longer.{entry_with}
use Rattle.run_laws.proofs.Places.{map_at_get, map_get}
use Rattle.run_laws.proofs.ClientCalling.{Calls, act_calls}
use Rattle.run_laws.proofs.ClientCalling.Calls.{over, stays, waits}
use Rattle.wait_laws.proofs.Marking.{Marked, began_marked, cancelling, differ, silent}
use Rattle.wait_laws.proofs.Turning.{ClientCalled, ClientWoken, client_called, client_woken, mapped, only_if}

-- a client waits so, by this start
pub record IsClientWaiting (clients : List ClientState) (k start : ℕ) (wait : ClientWait) : Type 0 where
  pub client : ClientState
  pub there : slice_get clients k ≡ Some client
  pub waits_so : client.activity ≡ activity.Waiting start wait

-- behind so many threads
abbrev pub ClientsMarked : List Entry → ℕ → List ClientState → Type 0
ClientsMarked entries threads clients = (k start : ℕ) (wait : ClientWait) → IsClientWaiting clients k start wait → Marked entries (threads + k) start wait.cancelled

-- Changes of what a client does.

running_never : (a : ClientActivity) (start : ℕ) (wait : ClientWait) → client_running a ≡ activity.Waiting start wait → ⊥
running_never (activity.Running past) start wait is = absurd (cc)
running_never (activity.Waiting past old) start wait is = absurd (cc)
running_never (activity.Ended past) start wait is = absurd (cc)

ended_so : (a : ClientActivity) (start : ℕ) (wait : ClientWait) → client_ended a ≡ activity.Waiting start wait → a ≡ activity.Waiting start wait
ended_so (activity.Running past) start wait is = absurd (cc)
ended_so (activity.Waiting past old) start wait is = is
ended_so (activity.Ended past) start wait is = absurd (cc)

begins_so : (new wait : ClientWait) (start : ℕ) (a : ClientActivity) → client_waiting new a ≡ activity.Waiting start wait
    → (a ≡ activity.Waiting start wait) ⊎ ((a ≡ activity.Running start) × (wait ≡ new))
begins_so new wait start (activity.Running running) is =
    inr (ap (λ n. activity.Running n) (let same : running ≡ start = cc in same), let same : wait ≡ new = cc in same)
begins_so new wait start (activity.Waiting past old) is = inl is
begins_so new wait start (activity.Ended past) is = absurd (cc)

cancelled_so : (a : ClientActivity) (start : ℕ) (wait : ClientWait) → client_cancelled a ≡ activity.Waiting start wait
    → (was : ClientWait) × (a ≡ activity.Waiting start was) × (wait.cancelled ≡ true)
cancelled_so (activity.Running past) start wait is = absurd (cc)
cancelled_so (activity.Waiting past was) start wait is =
    let marked : record was { cancelled = true } ≡ wait = cc in
    (was, ap (λ n. activity.Waiting n was) (let same : past ≡ start = cc in same), ap (λ (x : ClientWait). x.cancelled) (sym marked))
cancelled_so (activity.Ended past) start wait is = absurd (cc)

same_clients : (clients others : List ClientState) → others ≡ clients → (k start : ℕ) (wait : ClientWait) → IsClientWaiting others k start wait → IsClientWaiting clients k start wait
same_clients clients others same k start wait w = subst (λ cs. IsClientWaiting cs k start wait) same w

thread_no_client : (threads k j : ℕ) → nat_lt k threads ≡ true → threads + j ≡ k → ⊥
thread_no_client threads k j here same =
    let none : nat_lt k threads ≡ false = subst (λ n. nat_lt n threads ≡ false) same (is_no_thread threads j) in
    absurd (cc)

pub number_of : (threads k : ℕ) → nat_lt k threads ≡ false → threads + (k - threads) ≡ k
number_of threads k none = grind (arith, nat_tests)

module _ (entries : List Entry) (s : State) (old : ClientsMarked entries (length s.core.threads) s.world.clients) where
  abbrev threads : ℕ
  threads = length s.core.threads

  -- of a thread: the clients stay
  begin_by_thread : (k start : ℕ) (asked : Call) (outcome : Outcome) → is_thread s k ≡ true
      → ClientsMarked (entries ++ entry_with (event.Begin (record { 0 = k }) start asked) outcome.answer outcome.seqs ∷ []) threads s.world.clients
  begin_by_thread k start asked outcome here j since wait w =
      silent entries (entry_with (event.Begin (record { 0 = k }) start asked) outcome.answer outcome.seqs) (threads + j) since wait.cancelled
      (differ k (threads + j) (thread_no_client threads k j here)) refl (old j since wait w)

  resume_by_thread : (k start : ℕ) (outcome : Outcome) → is_thread s k ≡ true
      → ClientsMarked (entries ++ entry_with (event.Resume (record { 0 = k }) start) outcome.answer outcome.seqs ∷ []) threads s.world.clients
  resume_by_thread k start outcome here j since wait w =
      silent entries (entry_with (event.Resume (record { 0 = k }) start) outcome.answer outcome.seqs) (threads + j) since wait.cancelled
      (differ k (threads + j) (thread_no_client threads k j here)) refl (old j since wait w)

  -- of the client `n`, which is the actor `k`

  module _ (k n start : ℕ) (k_is : threads + n ≡ k) where
    apart : (j : ℕ) → (j ≡ n → ⊥) → (k == (threads + j)) ≡ false
    apart j never = differ k (threads + j) (λ same. never (omega (arith, same, k_is)))

    waited_marked : (asked : Call) (given : Answer) (j since : ℕ) (wait : ClientWait) → (j ≡ n → ⊥) → IsClientWaiting s.world.clients j since wait
        → Marked (entries ++ entry_with (event.Begin (record { 0 = k }) start asked) given no_seqs ∷ []) (threads + j) since wait.cancelled
    waited_marked asked given j since wait other w =
        silent entries (entry_with (event.Begin (record { 0 = k }) start asked) given no_seqs) (threads + j) since wait.cancelled (apart j other) refl (old j since wait w)

    ran_not : (found : ClientState) → slice_get s.world.clients n ≡ Some found → found.activity ≡ activity.Running start → (j since : ℕ) (wait : ClientWait)
        → IsClientWaiting s.world.clients j since wait → j ≡ n → ⊥
    ran_not found there ran j since wait w place =
        let here : slice_get s.world.clients n ≡ Some w.client = ap (λ m. slice_get s.world.clients m) (sym place) ∙ w.there in
        let same : w.client ≡ found = cc in
        let both : activity.Running start ≡ activity.Waiting since wait = sym ran ∙ (ap (λ (x : ClientState). x.activity) (sym same) ∙ w.waits_so) in
        absurd (cc)

    kept : (asked : Call) (given : Answer) (found : ClientState) → slice_get s.world.clients n ≡ Some found → found.activity ≡ activity.Running start → (j since : ℕ) (wait : ClientWait)
        → IsClientWaiting s.world.clients j since wait → Marked (entries ++ entry_with (event.Begin (record { 0 = k }) start asked) given no_seqs ∷ []) (threads + j) since wait.cancelled
    kept asked given found there ran j since wait w = waited_marked asked given j since wait (ran_not found there ran j since wait w) w

    began_so : (asked : Call) (given : Answer) (found was : ClientState) → slice_get s.world.clients n ≡ Some found → found.activity ≡ activity.Running start → given ≡ answer.Waits
        → (new : ClientWait) → new.cancelled ≡ false → (j since : ℕ) (wait : ClientWait) → j ≡ n → slice_get s.world.clients j ≡ Some was
        → (was.activity ≡ activity.Waiting since wait) ⊎ ((was.activity ≡ activity.Running since) × (wait ≡ new))
        → Marked (entries ++ entry_with (event.Begin (record { 0 = k }) start asked) given no_seqs ∷ []) (threads + j) since wait.cancelled
    began_so asked given found was there ran said new unmarked j since wait place was_there (inl waiting) =
        kept asked given found there ran j since wait (record { client = was; there = was_there; waits_so = waiting })
    began_so asked given found was there ran said new unmarked j since wait place was_there (inr both) =
        let here : slice_get s.world.clients n ≡ Some was = ap (λ m. slice_get s.world.clients m) (sym place) ∙ was_there in
        let same : was ≡ found = cc in
        let runs : activity.Running since ≡ activity.Running start = sym both.0 ∙ (ap (λ (x : ClientState). x.activity) same ∙ ran) in
        let by : start ≡ since = cc in
        let at : k ≡ threads + j = omega (arith, place, k_is) in
        let longest : List Entry = entries ++ entry_with (event.Begin (record { 0 = k }) start asked) given no_seqs ∷ [] in
        subst (λ m. Marked longest m since wait.cancelled) at
        (subst (λ m. Marked longest k m wait.cancelled) by
        (began_marked entries k start asked given no_seqs said wait.cancelled (ap (λ (x : ClientWait). x.cancelled) both.1 ∙ unmarked)))

    begin_by_client : (asked : Call) (acted : Acted) (found : ClientState) → slice_get s.world.clients n ≡ Some found → found.activity ≡ activity.Running start → Calls n s.world acted
        → ClientsMarked (entries ++ entry_with (event.Begin (record { 0 = k }) start asked) acted.answer no_seqs ∷ []) threads acted.world.clients
    begin_by_client asked acted found there ran (stays is other) j since wait w =
        kept asked acted.answer found there ran j since wait (same_clients s.world.clients acted.world.clients is j since wait w)
    begin_by_client asked acted found there ran (waits new unmarked is said) j since wait w =
        let v : IsClientWaiting (map_at (client_changed (client_waiting new)) s.world.clients n) j since wait =
        same_clients (map_at (client_changed (client_waiting new)) s.world.clients n) acted.world.clients is j since wait w in
        elim (map_at_get (client_changed (client_waiting new)) s.world.clients n j v.client v.there) [
          | inl before ↦ kept asked acted.answer found there ran j since wait (record { client = v.client; there = before.1; waits_so = v.waits_so })
          | inr now ↦ began_so asked acted.answer found now.1 there ran said new unmarked j since wait now.0 now.2
              (begins_so new wait since now.1.activity (ap (λ (x : ClientState). x.activity) (sym now.3) ∙ v.waits_so))
        ]
    begin_by_client asked acted found there ran (over is other) j since wait w =
        let v : IsClientWaiting (map_at (client_changed client_ended) s.world.clients n) j since wait =
        same_clients (map_at (client_changed client_ended) s.world.clients n) acted.world.clients is j since wait w in
        elim (map_at_get (client_changed client_ended) s.world.clients n j v.client v.there) [
          | inl before ↦ kept asked acted.answer found there ran j since wait (record { client = v.client; there = before.1; waits_so = v.waits_so })
          | inr now ↦ kept asked acted.answer found there ran j since wait
              (record { client = now.1; there = now.2; waits_so = ended_so now.1.activity since wait (ap (λ (x : ClientState). x.activity) (sym now.3) ∙ v.waits_so) })
        ]

    resume_by_client : (acted : Acted) → ClientWoken s n start acted
        → ClientsMarked (entries ++ entry_with (event.Resume (record { 0 = k }) start) acted.answer no_seqs ∷ []) threads acted.world.clients
    resume_by_client acted b =
        subst (λ (x : Acted). ClientsMarked (entries ++ entry_with (event.Resume (record { 0 = k }) start) x.answer no_seqs ∷ []) threads x.world.clients) (sym b.ends) (λ j since wait w.
        let left : b.inner.world.clients ≡ s.world.clients = (end_same s.core.clock b.wait s.world b.inner b.done).0 in
        elim (map_at_get (client_changed client_running) b.inner.world.clients n j w.client w.there) [
          | inl before ↦ silent entries (entry_with (event.Resume (record { 0 = k }) start) b.inner.answer no_seqs) (threads + j) since wait.cancelled (apart j before.0) refl
              (old j since wait (same_clients s.world.clients b.inner.world.clients left j since wait (record { client = w.client; there = before.1; waits_so = w.waits_so })))
          | inr now ↦ absurd (running_never now.1.activity since wait (ap (λ (x : ClientState). x.activity) (sym now.3) ∙ w.waits_so))
        ])

  abbrev Marks : Event → Stepped → Type 0
  Marks e r = ClientsMarked (entries ++ entry_of e r ∷ []) threads r.state.world.clients

  begin_by : (k start : ℕ) (asked : Call) (r : Stepped) (b : Bool) → is_thread s k ≡ b
      → cond b (option_map (in_world s.world) (core_begin s.core k start asked)) (option_map (beside_core s.core) (client_begin s (client_number s k) start asked)) ≡ Some r
      → Marks (event.Begin (record { 0 = k }) start asked) r
  begin_by k start asked r true here is =
      let out : (o : Outcome) × (core_begin s.core k start asked ≡ Some o) × (r ≡ in_world s.world o) = mapped (in_world s.world) (core_begin s.core k start asked) r is in
      subst (λ (x : Stepped). Marks (event.Begin (record { 0 = k }) start asked) x) (sym out.2) (begin_by_thread k start asked out.0 here)
  begin_by k start asked r false none is =
      let n : ℕ = client_number s k in
      let out : (o : Acted) × (client_begin s (client_number s k) start asked ≡ Some o) × (r ≡ beside_core s.core o) =
      mapped (beside_core s.core) (client_begin s (client_number s k) start asked) r is in
      let b : ClientCalled s n start asked out.0 = client_called s n start asked out.0 out.1 in
      subst (λ (x : Stepped). Marks (event.Begin (record { 0 = k }) start asked) x) (sym out.2)
      (begin_by_client k n start (number_of threads k none) asked out.0 b.found b.there b.ran (act_calls n s.core.clock s.world asked out.0 b.done))

  resume_by : (k start : ℕ) (r : Stepped) (b : Bool) → is_thread s k ≡ b
      → cond b (option_map (in_world s.world) (core_resume s.core k start)) (option_map (beside_core s.core) (client_resume s (client_number s k) start)) ≡ Some r
      → Marks (event.Resume (record { 0 = k }) start) r
  resume_by k start r true here is =
      let out : (o : Outcome) × (core_resume s.core k start ≡ Some o) × (r ≡ in_world s.world o) = mapped (in_world s.world) (core_resume s.core k start) r is in
      subst (λ (x : Stepped). Marks (event.Resume (record { 0 = k }) start) x) (sym out.2) (resume_by_thread k start out.0 here)
  resume_by k start r false none is =
      let n : ℕ = client_number s k in
      let out : (o : Acted) × (client_resume s (client_number s k) start ≡ Some o) × (r ≡ beside_core s.core o) =
      mapped (beside_core s.core) (client_resume s (client_number s k) start) r is in
      subst (λ (x : Stepped). Marks (event.Resume (record { 0 = k }) start) x) (sym out.2)
      (resume_by_client k n start (number_of threads k none) out.0 (client_woken s n start out.0 out.1))

  device_by : (r : Stepped) → option_map device_stepped (device_step s) ≡ Some r → Marks event.Device r
  device_by r is =
      let out : (done : DeviceStep) × (device_step s ≡ Some done) × (r ≡ device_stepped done) = mapped device_stepped (device_step s) r is in
      let keeps : DeviceKeeps s (any_change s.core) out.0 = subst (λ (o : Option DeviceStep). DeviceKeepsIf s (any_change s.core) o) out.1 (device_keeps s (any_change s.core)) in
      subst (λ (x : Stepped). Marks event.Device x) (sym out.2) (λ j since wait w.
      silent entries (entry_of event.Device (device_stepped out.0)) (threads + j) since wait.cancelled refl refl
      (old j since wait (same_clients s.world.clients out.0.state.world.clients keeps.clients j since wait w)))

  idle_marked : (deadline : Option ℕ) (j since : ℕ) (wait : ClientWait) → IsClientWaiting (world_idle deadline s.world).clients j since wait
      → Marked (entries ++ entry_with event.Idle (idle_answer deadline) no_seqs ∷ []) (threads + j) since wait.cancelled
  unfolding world_idle
  idle_marked (Some deadline) j since wait w = silent entries (entry_with event.Idle (answer.Clock deadline) no_seqs) (threads + j) since wait.cancelled refl refl (old j since wait w)
  idle_marked None j since wait w =
      let from : (x : ClientState) × (slice_get s.world.clients j ≡ Some x) × (client_changed client_cancelled x ≡ w.client) =
      map_get (client_changed client_cancelled) s.world.clients j w.client w.there in
      let so : (was : ClientWait) × (from.0.activity ≡ activity.Waiting since was) × (wait.cancelled ≡ true) =
      cancelled_so from.0.activity since wait (ap (λ (x : ClientState). x.activity) from.2 ∙ w.waits_so) in
      cancelling entries (entry_with event.Idle answer.CancelAll no_seqs) (threads + j) since so.0.cancelled wait.cancelled refl refl so.2
      (old j since so.0 (record { client = from.0; there = from.1; waits_so = so.1 }))

  idle_by : (r : Stepped) → cond (idle_lawful s) (Some (idle s)) None ≡ Some r → Marks event.Idle r
  idle_by r is =
      let lawful : (idle_lawful s ≡ true) × (Some (idle s) ≡ Some r) = only_if (idle_lawful s) (Some (idle s)) r is in
      let same : idle s ≡ r = let both : Some (idle s) ≡ Some r = lawful.1 in cc in
      subst (λ (x : Stepped). Marks event.Idle x) same (idle_marked (next_deadline s))

  pub step_marks : (e : Event) (r : Stepped) → step s e ≡ Some r → Marks e r
  unfolding step
  step_marks (event.Begin actor start asked) r is =
      begin_by actor.0 start asked r (is_thread s actor.0) refl is
  step_marks (event.Resume actor start) r is = resume_by actor.0 start r (is_thread s actor.0) refl is
  step_marks event.Device r is = device_by r is
  step_marks event.Idle r is = idle_by r is
