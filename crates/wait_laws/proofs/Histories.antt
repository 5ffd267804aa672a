-- At every point of every history; and so the law on the ends of waits.
use Rattle.std.proofs.Common.{◌≡◌, ℕ, true, not, List, [], ◌∷◌, ◌++◌, length, Option, Some, ap, sym, ◌∙◌, subst, append_assoc, append-nil, Bool, false, cond, None}
use Rattle.std.specs.Prelude.{◌&&◌, ⊤}
use Rattle.std.specs.List.{list_any}
use Rattle.kernel_values.specs.SceneLaw.{SceneValue}
use Rattle.kernel_values.specs.declared.entry.ActorStatus.TheVariants as status
use Rattle.kernel_values.specs.declared.entry.Entry.{Entry}
use Rattle.kernel_values.specs.declared.entry.Event.{Event}
use Rattle.kernel_values.specs.declared.entry.Event.TheVariants as event
use Rattle.kernel_values.specs.declared.state.Activity.{Activity}
use Rattle.kernel_values.specs.declared.state.State.{State}
use Rattle.kernel_values.specs.declared.state.Thread.{Thread}
use Rattle.kernel_types.specs.CoreStep.{core_resume, status_of}
use Rattle.kernel_types.specs.History.{Legal, entry_of, next_state, state_after, state_or, step_entry}
use Rattle.kernel_types.specs.Opening.{opening}
use Rattle.kernel_types.specs.Outcome.{Outcome}
use Rattle.kernel_types.specs.Step.{Stepped, step, in_world, is_thread, beside_core, client_number, client_resume, client_status}
use Rattle.kernel_types.proofs.Actors.{resume_of_thread}
use Rattle.run_laws.proofs.Everyone.{Everyone}
use Rattle.run_laws.proofs.Opening.{everyone_opened}
use Rattle.run_laws.proofs.Standings.{Standings}
use Rattle.std.proofs.lemmas.List.{length-map}
use Rattle.std.specs.Option.{is_some, option_map}
use Rattle.kernel_values.specs.declared.errno.Errno.TheVariants as errno
use Rattle.kernel_values.specs.declared.world.ClientActivity.{ClientActivity}
use Rattle.kernel_values.specs.declared.world.ClientState.{ClientState}
use Rattle.kernel_values.specs.declared.world.ClientWait.{ClientWait}
use Rattle.kernel_values.specs.declared.world.World.{World}
use Rattle.kernel_types.specs.Clients.{Acted, answer_of_wait, end_by_answer, end_of_ns_wait, ns_refuses}
use Rattle.kernel_types.specs.Drains.{drained}
use Rattle.kernel_types.specs.Waits.{is_due}
use Rattle.kernel_laws.proofs.Standing.{StepStands, step_stands}
use Rattle.wait_laws.proofs.ClientMarks.{ClientsMarked, number_of, step_marks as client_marks}
use Rattle.wait_laws.specs.Cancelling.{is_client_activity_told, is_client_told, is_state_told, BegunWait, cancels, is_activity_told, is_cancelled, is_thread_told, is_told, is_told_of}
use Rattle.wait_laws.proofs.Ends.{end_cancels}
use Rattle.wait_laws.proofs.Marking.{Marked}
use Rattle.wait_laws.proofs.Marks.{AllMarked, step_marks}
use Rattle.wait_laws.proofs.Turning.{ClientWoken, Woken, client_woken, mapped, woken}

-- The step of a legal entry.

pub record StepOf (s : State) (entry : Entry) : Type 0 where
  pub stepped : Stepped
  pub is : step s entry.event ≡ Some stepped
  pub entry_is : entry ≡ entry_of entry.event stepped

step_of : (s : State) (entry : Entry) → step_entry s entry.event ≡ Some entry → StepOf s entry
step_of s entry legal =
    let out : (r : Stepped) × (step s entry.event ≡ Some r) × (entry ≡ entry_of entry.event r) = mapped (entry_of entry.event) (step s entry.event) entry legal in
    record { stepped = out.0; is = out.1; entry_is = out.2 }

-- As many threads stay.

threads_by : (s : State) (o : Option Stepped) (stepped : Stepped) → o ≡ Some stepped → StepStands s o → length stepped.state.core.threads ≡ length s.core.threads
threads_by s None stepped is stands = absurd (cc)
threads_by s (Some found) stepped is stands =
    let same : found ≡ stepped = cc in
    let many : length found.state.core.threads ≡ length s.core.threads =
    sym (length-map found.state.core.threads (λ (t : Thread). t.app)) ∙ (ap (λ (owners : List ℕ). length owners) stands.owners_are ∙ length-map s.core.threads (λ (t : Thread). t.app)) in
    ap (λ (r : Stepped). length r.state.core.threads) (sym same) ∙ many

-- of threads and of clients
record EachMarked (entries : List Entry) (s : State) : Type 0 where
  threads : AllMarked entries s.core.threads
  clients : ClientsMarked entries (length s.core.threads) s.world.clients

next_marked : (entries : List Entry) (s : State) (entry : Entry) → EachMarked entries s → StepOf s entry → EachMarked (entries ++ entry ∷ []) (next_state s entry.event)
next_marked entries s entry old one =
    let r : Stepped = one.stepped in
    let many : length r.state.core.threads ≡ length s.core.threads = threads_by s (step s entry.event) r one.is (step_stands s entry.event) in
    subst (λ (o : Option Stepped). EachMarked (entries ++ entry ∷ []) (state_or s o)) (sym one.is)
    (subst (λ (e : Entry). EachMarked (entries ++ e ∷ []) r.state) (sym one.entry_is) (record {
      threads = step_marks entries s old.threads entry.event r one.is;
      clients = subst (λ n. ClientsMarked (entries ++ entry_of entry.event r ∷ []) n r.state.world.clients) (sym many)
          (client_marks entries s old.clients entry.event r one.is);
    }))

-- at the point of a history before an entry
record AtPoint (s : State) (entries before : List Entry) (entry : Entry) : Type 0 where
  marked : EachMarked (entries ++ before) (state_after s before)
  one : StepOf (state_after s before) entry

at_point : (entries : List Entry) (s : State) (before : List Entry) (entry : Entry) (after : List Entry) → EachMarked entries s → Legal s (before ++ entry ∷ after)
    → AtPoint s entries before entry
at_point entries s [] entry after old legal =
    record { marked = subst (λ es. EachMarked es s) (sym (append-nil entries)) old; one = step_of s entry legal.0 }
at_point entries s (first ∷ before) entry after old legal =
    let next : State = next_state s first.event in
    let there : AtPoint next (entries ++ first ∷ []) before entry =
    at_point (entries ++ first ∷ []) next before entry after (next_marked entries s first old (step_of s first legal.0)) legal.1 in
    record {
      marked = subst (λ es. EachMarked es (state_after next before)) (append_assoc entries (first ∷ []) before) there.marked;
      one = there.one;
    }

-- The end of a wait.

resumes : (s : State) (k start : ℕ) (r : Stepped) → is_thread s k ≡ true → step s (event.Resume (record { 0 = k }) start) ≡ Some r
    → (o : Outcome) × (core_resume s.core k start ≡ Some o) × (r ≡ in_world s.world o)
unfolding step
resumes s k start r here is = mapped (in_world s.world) (core_resume s.core k start) r (sym (resume_of_thread s k start here) ∙ is)

told_of : (s : State) (k start : ℕ) (outcome : Outcome) (b : Woken s.core k start outcome) → is_told s.core k ≡ is_told_of s.core b.found.app b.wait.on
told_of s k start outcome b = ap (λ (o : Option Thread). is_thread_told s.core o) b.there ∙ ap (λ (a : Activity). is_activity_told s.core b.found.app a) b.waits

-- where the thread waits so, the answer is CANCELLED exactly so
ends_by : (entries : List Entry) (s : State) → AllMarked entries s.core.threads → (k start : ℕ) (outcome : Outcome) → Woken s.core k start outcome
    → (begun : BegunWait k start entries) × (is_cancelled outcome.answer ≡ (not (is_told s.core k) && list_any cancels begun.since))
ends_by entries s old k start outcome b =
    let m : Marked entries k start b.wait.cancelled = old k start b.wait (record { thread = b.found; there = b.there; waits = b.waits }) in (
      m.begun,
      ap (λ (o : Outcome). is_cancelled o.answer) b.ends ∙ (end_cancels s.core b.found.app b.wait b.inner b.done
          ∙ (ap (λ told. not told && b.wait.cancelled) (sym (told_of s k start outcome b)) ∙ ap (λ mark. not (is_told s.core k) && mark) m.mark)),
    )

ends_at : (entries : List Entry) (s : State) (entry : Entry) → AllMarked entries s.core.threads → StepOf s entry → (k start : ℕ) → is_thread s k ≡ true
    → entry.event ≡ event.Resume (record { 0 = k }) start
    → (begun : BegunWait k start entries) × (is_cancelled entry.answer ≡ (not (is_told s.core k) && list_any cancels begun.since))
ends_at entries s entry old one k start here is =
    let out : (o : Outcome) × (core_resume s.core k start ≡ Some o) × (one.stepped ≡ in_world s.world o) =
    resumes s k start one.stepped here (subst (λ (e : Event). step s e ≡ Some one.stepped) is one.is) in
    let said : entry.answer ≡ out.0.answer = ap (λ (e : Entry). e.answer) one.entry_is ∙ ap (λ (r : Stepped). r.answer) out.2 in
    let ends : (begun : BegunWait k start entries) × (is_cancelled out.0.answer ≡ (not (is_told s.core k) && list_any cancels begun.since)) =
    ends_by entries s old k start out.0 (woken s.core k start out.0 out.1) in
    (ends.0, ap is_cancelled said ∙ ends.1)

-- of a client's wait, to which nothing is told

marked_by : (cancelled due : Bool) (w : World) (acted : Acted) → cond cancelled (Some (ns_refuses errno.Cancelled w)) (cond due (Some (ns_refuses errno.TimedOut w)) None) ≡ Some acted
    → is_cancelled acted.answer ≡ cancelled
marked_by true due w acted is = ap (λ (x : Acted). is_cancelled x.answer) (let same : acted ≡ ns_refuses errno.Cancelled w = cc in same)
marked_by false true w acted is = ap (λ (x : Acted). is_cancelled x.answer) (let same : acted ≡ ns_refuses errno.TimedOut w = cc in same)
marked_by false false w acted is = absurd (cc)

untold_by : (clock : ℕ) (wait : ClientWait) (got : Option Acted) (w : World) (acted : Acted) → is_some got ≡ false → end_by_answer clock wait got w ≡ Some acted
    → is_cancelled acted.answer ≡ wait.cancelled
untold_by clock wait (Some found) w acted none is = absurd (cc)
untold_by clock wait None w acted none is = marked_by wait.cancelled (is_due clock wait.deadline) w acted is

pub client_told_of : (s : State) (k start : ℕ) (acted : Acted) (b : ClientWoken s (client_number s k) start acted)
    → is_client_told s k ≡ is_some (answer_of_wait b.wait.on (drained s.world))
client_told_of s k start acted b =
    ap (λ (o : Option ClientState). is_state_told s.world o) b.there ∙ ap (λ (a : ClientActivity). is_client_activity_told s.world a) b.waits

client_end : (s : State) (k start : ℕ) (acted : Acted) (b : ClientWoken s (client_number s k) start acted) → is_client_told s k ≡ false → is_cancelled acted.answer ≡ b.wait.cancelled
unfolding end_of_ns_wait
client_end s k start acted b none =
    ap (λ (x : Acted). is_cancelled x.answer) b.ends
    ∙ untold_by s.core.clock b.wait (answer_of_wait b.wait.on (drained s.world)) (drained s.world) b.inner (sym (client_told_of s k start acted b) ∙ none) b.done

client_resumes : (s : State) (k start : ℕ) (r : Stepped) (b : Bool) → b ≡ false
    → cond b (option_map (in_world s.world) (core_resume s.core k start)) (option_map (beside_core s.core) (client_resume s (client_number s k) start)) ≡ Some r
    → (o : Acted) × (client_resume s (client_number s k) start ≡ Some o) × (r ≡ beside_core s.core o)
client_resumes s k start r true none is = absurd (cc)
client_resumes s k start r false none is = mapped (beside_core s.core) (client_resume s (client_number s k) start) r is

client_steps : (s : State) (k start : ℕ) (r : Stepped) → is_thread s k ≡ false → step s (event.Resume (record { 0 = k }) start) ≡ Some r
    → (o : Acted) × (client_resume s (client_number s k) start ≡ Some o) × (r ≡ beside_core s.core o)
unfolding step
client_steps s k start r none is = client_resumes s k start r (is_thread s k) none is

client_ends_at : (entries : List Entry) (s : State) (entry : Entry) → ClientsMarked entries (length s.core.threads) s.world.clients → StepOf s entry → (k start : ℕ) → is_thread s k ≡ false
    → entry.event ≡ event.Resume (record { 0 = k }) start → (begun : BegunWait k start entries) × (is_client_told s k ≡ false → is_cancelled entry.answer ≡ list_any cancels begun.since)
client_ends_at entries s entry old one k start none is =
    let out : (o : Acted) × (client_resume s (client_number s k) start ≡ Some o) × (one.stepped ≡ beside_core s.core o) =
    client_steps s k start one.stepped none (subst (λ (e : Event). step s e ≡ Some one.stepped) is one.is) in
    let b : ClientWoken s (client_number s k) start out.0 = client_woken s (client_number s k) start out.0 out.1 in
    let said : entry.answer ≡ out.0.answer = ap (λ (e : Entry). e.answer) one.entry_is ∙ ap (λ (r : Stepped). r.answer) out.2 in
    let m : Marked entries k start b.wait.cancelled = subst (λ n. Marked entries n start b.wait.cancelled) (number_of (length s.core.threads) k none)
    (old (client_number s k) start b.wait (record { client = b.found; there = b.there; waits_so = b.waits })) in
    (m.begun, λ untold. ap is_cancelled said ∙ (client_end s k start out.0 b untold ∙ m.mark))

-- Nobody waits at first.

never_waiting : Standings
never_waiting = record {
  thread = λ k. ⊤;
  client = λ k. ⊤;
  unused = λ entries k start. ⊤;
  fits = λ entries k x. (start : ℕ) → x ≡ status.Waiting start → ⊥;
  off = λ entries k start is. absurd (cc);
  ended = λ entries k past start is. absurd (cc);
  begins = λ entries k first none_yet start is. absurd (cc);
  unused_longer = λ entries entry k start silent none_yet. tt;
  fits_longer = λ entries entry k x silent fits. fits;
}

opened : (scene : SceneValue) → EachMarked [] (opening scene)
unfolding never_waiting
opened scene =
    let all : Everyone never_waiting [] (opening scene) = everyone_opened never_waiting scene (λ j thread o. tt) (λ j client is. tt) (λ j s past. tt) in
    record {
      threads = λ k start wait w. absurd ((all.all k w.thread w.there).fits start (ap (λ (a : Activity). status_of a) w.waits));
      clients = λ k start wait w. absurd ((all.clients k w.client w.there).fits start (ap (λ (a : ClientActivity). client_status a) w.waits_so));
    }

module _ (scene : SceneValue) (before : List Entry) (entry : Entry) (after : List Entry) (legal : Legal (opening scene) (before ++ entry ∷ after)) where
  point : AtPoint (opening scene) [] before entry
  point = at_point [] (opening scene) before entry after (opened scene) legal

  pub ends_cancelled : (k start : ℕ) → is_thread (state_after (opening scene) before) k ≡ true → entry.event ≡ event.Resume (record { 0 = k }) start
      → (begun : BegunWait k start before) × (is_cancelled entry.answer ≡ (not (is_told (state_after (opening scene) before).core k) && list_any cancels begun.since))
  unfolding point
  ends_cancelled k start here is = ends_at before (state_after (opening scene) before) entry point.marked.threads point.one k start here is

  pub client_ends_cancelled : (k start : ℕ) → is_thread (state_after (opening scene) before) k ≡ false → entry.event ≡ event.Resume (record { 0 = k }) start
      → (begun : BegunWait k start before) × (is_client_told (state_after (opening scene) before) k ≡ false → is_cancelled entry.answer ≡ list_any cancels begun.since)
  unfolding point
  client_ends_cancelled k start none is = client_ends_at before (state_after (opening scene) before) entry point.marked.clients point.one k start none is

  pub client_resumed_at : (k start : ℕ) → is_thread (state_after (opening scene) before) k ≡ false → entry.event ≡ event.Resume (record { 0 = k }) start
      → (o : Acted) × (client_resume (state_after (opening scene) before) (client_number (state_after (opening scene) before) k) start ≡ Some o) × (entry.answer ≡ o.answer)
  unfolding point
  client_resumed_at k start none is =
      let s : State = state_after (opening scene) before in
      let one : StepOf s entry = point.one in
      let out : (o : Acted) × (client_resume s (client_number s k) start ≡ Some o) × (one.stepped ≡ beside_core s.core o) =
      client_steps s k start one.stepped none (subst (λ (e : Event). step s e ≡ Some one.stepped) is one.is) in
      (out.0, out.1, ap (λ (e : Entry). e.answer) one.entry_is ∙ ap (λ (r : Stepped). r.answer) out.2)
