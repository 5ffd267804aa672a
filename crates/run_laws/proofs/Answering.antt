-- Every lawful step keeps how many calls have an answer, so it is so in every legal history; and no actor goes back to an earlier start.
use Rattle.std.proofs.Common.{◌≡◌, ℕ, ◌+◌, ◌==◌, ◌≤◌, Bool, true, false, cond, List, [], ◌∷◌, ◌++◌, length, Option, Some, None, refl, ap, sym, ◌∙◌, subst, arith, append_assoc, append-nil}
use Rattle.std.proofs.lemmas.Bool.Decides.{nat_tests}
use Rattle.std.specs.Prelude.{slice_get}
use Rattle.std.specs.Option.{option_map}
use Rattle.kernel_values.specs.SceneLaw.{SceneValue}
use Rattle.kernel_values.specs.declared.call.Call.{Call}
use Rattle.kernel_values.specs.declared.entry.ActorStatus.{ActorStatus}
use Rattle.kernel_values.specs.declared.entry.ActorStatus.TheVariants as status
use Rattle.kernel_values.specs.declared.entry.Entry.{Entry}
use Rattle.kernel_values.specs.declared.entry.Event.{Event}
use Rattle.kernel_values.specs.declared.entry.Event.TheVariants as event
use Rattle.kernel_values.specs.declared.state.Activity.{Activity}
use Rattle.kernel_values.specs.declared.state.Activity.TheVariants as activity
use Rattle.kernel_values.specs.declared.state.State.{State}
use Rattle.kernel_values.specs.declared.state.Thread.{Thread}
use Rattle.kernel_values.specs.declared.state.Wait.{Wait}
use Rattle.kernel_values.specs.declared.world.ClientActivity.{ClientActivity}
use Rattle.kernel_values.specs.declared.world.ClientActivity.TheVariants as client_activity
use Rattle.kernel_values.specs.declared.world.ClientState.{ClientState}
use Rattle.kernel_values.specs.declared.world.ClientWait.{ClientWait}
use Rattle.kernel_types.proofs.Actors.{begin_is_of_running, resume_is_of_waiting, status_of_client, status_of_thread, thread_is_thread}
use Rattle.kernel_types.specs.Clients.{Acted, end_of_ns_wait, ns_act}
use Rattle.kernel_types.specs.CoreStep.{act, core_begin, core_resume, resumed, status_of, swept}
use Rattle.kernel_types.specs.Device.{DeviceStep, device_step}
use Rattle.kernel_types.specs.Drains.{drained}
use Rattle.kernel_types.specs.Facts.{status_at}
use Rattle.kernel_types.specs.History.{Legal, entry_of, next_state, state_after, state_or, step_entry}
use Rattle.kernel_types.specs.Opening.{opening}
use Rattle.kernel_types.specs.Outcome.{Outcome, no_seqs}
use Rattle.kernel_types.specs.Step.{Stepped, begin, beside_core, client_begin, client_resume, client_status, device_stepped, step, idle, idle_lawful, in_world, resume, runs_again}
use Rattle.kernel_types.specs.Waits.{end_of_wait}
use Rattle.kernel_laws.proofs.Histories.{begins}
use Rattle.run_laws.specs.Answered.{HasAnswers, IsFrom, Open}
use Rattle.run_laws.proofs.Callers.{has_client_body, has_thread_body}
use Rattle.run_laws.proofs.ClientSteps.{behind, end_same, is_no_thread}
use Rattle.run_laws.proofs.Counted.{Counts, answers_at, counted, counted_opened, counts_at, counts_call, counts_end}
use Rattle.run_laws.proofs.Everyone.{Actor, Everyone, Stepping, actor_of, client_begins, client_resumes, device_turns, idles, thread_begins, thread_resumes}
use Rattle.run_laws.proofs.Everyone.Actor.{is_client, is_none, is_thread}
use Rattle.run_laws.proofs.Finals.{end_answers}
use Rattle.run_laws.proofs.Longer.{self_is}
use Rattle.run_laws.proofs.Places.{Stands, start_of}

-- What a lawful step of an actor did.

mapped : {X Y : Type 0} (f : X → Y) (o : Option X) (y : Y) → option_map f o ≡ Some y → (x : X) × (o ≡ Some x) × (y ≡ f x)
mapped f None y h = absurd (cc)
mapped f (Some x) y h = (x, refl, let same : y ≡ f x = cc in same)

only_if : {X : Type 0} (b : Bool) (o : Option X) (x : X) → cond b o None ≡ Some x → (b ≡ true) × (o ≡ Some x)
only_if true o x h = (refl, h)
only_if false o x h = absurd (cc)

begun : (s : State) (k start : ℕ) (asked : Call) (r : Stepped) → step s (event.Begin (record { 0 = k }) start asked) ≡ Some r → begin s k start asked ≡ Some r
unfolding step
begun s k start asked r is = is

ended : (s : State) (k start : ℕ) (r : Stepped) → step s (event.Resume (record { 0 = k }) start) ≡ Some r → resume s k start ≡ Some r
unfolding step
ended s k start r is = is

thread_begun : (s : State) (k start : ℕ) (asked : Call) (thread : Thread) → slice_get s.core.threads k ≡ Some thread → thread.activity ≡ activity.Running start
    → begin s k start asked ≡ option_map (in_world s.world) (option_map swept (act s.core k thread.app asked))
unfolding core_begin
thread_begun s k start asked thread thread_is activity_is = rw (thread_is_thread s k thread thread_is, thread_is, activity_is, self_is start) refl

thread_ended : (s : State) (k start : ℕ) (thread : Thread) (w : Wait) → slice_get s.core.threads k ≡ Some thread → thread.activity ≡ activity.Waiting start w
    → resume s k start ≡ option_map (in_world s.world) (option_map (resumed k) (end_of_wait s.core thread.app w))
unfolding core_resume
thread_ended s k start thread w thread_is activity_is = rw (thread_is_thread s k thread thread_is, thread_is, activity_is, self_is start) refl

client_begun : (s : State) (k start : ℕ) (asked : Call) (client : ClientState) → slice_get s.world.clients k ≡ Some client → client.activity ≡ client_activity.Running start
    → begin s (length s.core.threads + k) start asked ≡ option_map (beside_core s.core) (ns_act s.core.clock k asked s.world)
unfolding client_begin
client_begun s k start asked client client_is activity_is = rw (is_no_thread (length s.core.threads) k, behind (length s.core.threads) k, client_is, activity_is, self_is start) refl

client_ended : (s : State) (k start : ℕ) (client : ClientState) (w : ClientWait) → slice_get s.world.clients k ≡ Some client → client.activity ≡ client_activity.Waiting start w
    → resume s (length s.core.threads + k) start ≡ option_map (beside_core s.core) (option_map (runs_again k) (end_of_ns_wait s.core.clock w (drained s.world)))
unfolding client_resume
client_ended s k start client w client_is activity_is = rw (is_no_thread (length s.core.threads) k, behind (length s.core.threads) k, client_is, activity_is, self_is start) refl

-- by its status

running_is : (a : Activity) (start : ℕ) → Some (status_of a) ≡ Some (status.Running start) → a ≡ activity.Running start
running_is (activity.Running running) start is = let same : running ≡ start = cc in ap (λ n. activity.Running n) same
running_is activity.Off start is = absurd (cc)
running_is (activity.Waiting waiting w) start is = absurd (cc)
running_is (activity.Ended past) start is = absurd (cc)

waiting_is : (a : Activity) (start : ℕ) → Some (status_of a) ≡ Some (status.Waiting start) → (w : Wait) × (a ≡ activity.Waiting start w)
waiting_is (activity.Waiting waiting w) start is = (w, let same : waiting ≡ start = cc in ap (λ n. activity.Waiting n w) same)
waiting_is activity.Off start is = absurd (cc)
waiting_is (activity.Running running) start is = absurd (cc)
waiting_is (activity.Ended past) start is = absurd (cc)

client_running_is : (a : ClientActivity) (start : ℕ) → Some (client_status a) ≡ Some (status.Running start) → a ≡ client_activity.Running start
client_running_is (client_activity.Running running) start is = let same : running ≡ start = cc in ap (λ n. client_activity.Running n) same
client_running_is (client_activity.Waiting waiting w) start is = absurd (cc)
client_running_is (client_activity.Ended past) start is = absurd (cc)

client_waiting_is : (a : ClientActivity) (start : ℕ) → Some (client_status a) ≡ Some (status.Waiting start) → (w : ClientWait) × (a ≡ client_activity.Waiting start w)
client_waiting_is (client_activity.Waiting waiting w) start is = (w, let same : waiting ≡ start = cc in ap (λ n. client_activity.Waiting n w) same)
client_waiting_is (client_activity.Running running) start is = absurd (cc)
client_waiting_is (client_activity.Ended past) start is = absurd (cc)

-- Every lawful step keeps the counts.

module _ (from : ℕ → ℕ) (entries : List Entry) (s : State) (old : Everyone (counted from) entries s) where
  abbrev KeepsEveryone : Event → Stepped → Type 0
  KeepsEveryone e r = Everyone (counted from) (entries ++ entry_of e r ∷ []) r.state

  kept : (e : Event) (r stepped : Stepped) → r ≡ stepped → Stepping (counted from) entries s e stepped → KeepsEveryone e r
  kept e r stepped same stepping = subst (λ (x : Stepped). KeepsEveryone e x) (sym same) stepping.stand

  begin_by : (k start : ℕ) (asked : Call) (r : Stepped) → begin s k start asked ≡ Some r → Actor s k → KeepsEveryone (event.Begin (record { 0 = k }) start asked) r
  begin_by k start asked r is (is_thread thread thread_is status_is) =
      let runs : status_at s k ≡ Some (status.Running start) = begin_is_of_running s k start asked r is in
      let activity_is : thread.activity ≡ activity.Running start = running_is thread.activity start (sym status_is ∙ runs) in
      let counts : Counts from entries k (status.Running start) = counts_at from entries s old k (status.Running start) runs in
      let out : (o : Outcome) × (option_map swept (act s.core k thread.app asked) ≡ Some o) × (r ≡ in_world s.world o) =
      mapped (in_world s.world) (option_map swept (act s.core k thread.app asked)) r (sym (thread_begun s k start asked thread thread_is activity_is) ∙ is) in
      let inner : (o : Outcome) × (act s.core k thread.app asked ≡ Some o) × (out.0 ≡ swept o) = mapped swept (act s.core k thread.app asked) out.0 out.1 in
      kept (event.Begin (record { 0 = k }) start asked) r (in_world s.world (swept inner.0)) (out.2 ∙ ap (λ o. in_world s.world o) inner.2)
      (thread_begins (counted from) entries s old k start thread asked inner.0 thread_is activity_is (has_thread_body s.core k thread.app asked inner.0 inner.1)
      (λ goes. counts_call from entries k start asked counts.0 counts.1) inner.1)
  begin_by k start asked r is (is_client j client k_is client_is status_is) =
      let runs : status_at s k ≡ Some (status.Running start) = begin_is_of_running s k start asked r is in
      let activity_is : client.activity ≡ client_activity.Running start = client_running_is client.activity start (sym status_is ∙ runs) in
      let counts : Counts from entries (length s.core.threads + j) (status.Running start) =
      subst (λ n. Counts from entries n (status.Running start)) k_is (counts_at from entries s old k (status.Running start) runs) in
      let out : (acted : Acted) × (ns_act s.core.clock j asked s.world ≡ Some acted) × (r ≡ beside_core s.core acted) =
      mapped (beside_core s.core) (ns_act s.core.clock j asked s.world) r
      (sym (client_begun s j start asked client client_is activity_is) ∙ subst (λ n. begin s n start asked ≡ Some r) k_is is) in
      subst (λ n. KeepsEveryone (event.Begin (record { 0 = n }) start asked) r) (sym k_is)
      (kept (event.Begin (record { 0 = length s.core.threads + j }) start asked) r (beside_core s.core out.0) out.2
      (client_begins (counted from) entries s old j start client asked out.0 client_is activity_is (has_client_body s.core.clock j asked s.world out.0 out.1)
      (λ goes. counts_call from entries (length s.core.threads + j) start asked counts.0 counts.1) out.1))
  begin_by k start asked r is (is_none status_is) = let runs : status_at s k ≡ Some (status.Running start) = begin_is_of_running s k start asked r is in absurd (cc)

  resume_by : (k start : ℕ) (r : Stepped) → resume s k start ≡ Some r → Actor s k → KeepsEveryone (event.Resume (record { 0 = k }) start) r
  resume_by k start r is (is_thread thread thread_is status_is) =
      let waits : status_at s k ≡ Some (status.Waiting start) = resume_is_of_waiting s k start r is in
      let w : (x : Wait) × (thread.activity ≡ activity.Waiting start x) = waiting_is thread.activity start (sym status_is ∙ waits) in
      let counts : Counts from entries k (status.Waiting start) = counts_at from entries s old k (status.Waiting start) waits in
      let out : (o : Outcome) × (option_map (resumed k) (end_of_wait s.core thread.app w.0) ≡ Some o) × (r ≡ in_world s.world o) =
      mapped (in_world s.world) (option_map (resumed k) (end_of_wait s.core thread.app w.0)) r (sym (thread_ended s k start thread w.0 thread_is w.1) ∙ is) in
      let inner : (o : Outcome) × (end_of_wait s.core thread.app w.0 ≡ Some o) × (out.0 ≡ resumed k o) = mapped (resumed k) (end_of_wait s.core thread.app w.0) out.0 out.1 in
      kept (event.Resume (record { 0 = k }) start) r (in_world s.world (resumed k inner.0)) (out.2 ∙ ap (λ o. in_world s.world o) inner.2)
      (thread_resumes (counted from) entries s old k start thread w.0 inner.0 thread_is w.1 inner.1
      (counts_end from entries k start inner.0.answer inner.0.seqs (end_answers s.core thread.app w.0 inner.0 inner.1) counts.0 counts.1))
  resume_by k start r is (is_client j client k_is client_is status_is) =
      let waits : status_at s k ≡ Some (status.Waiting start) = resume_is_of_waiting s k start r is in
      let w : (x : ClientWait) × (client.activity ≡ client_activity.Waiting start x) = client_waiting_is client.activity start (sym status_is ∙ waits) in
      let counts : Counts from entries (length s.core.threads + j) (status.Waiting start) =
      subst (λ n. Counts from entries n (status.Waiting start)) k_is (counts_at from entries s old k (status.Waiting start) waits) in
      let over : Option Acted = end_of_ns_wait s.core.clock w.0 (drained s.world) in
      let out : (acted : Acted) × (option_map (runs_again j) over ≡ Some acted) × (r ≡ beside_core s.core acted) =
      mapped (beside_core s.core) (option_map (runs_again j) over) r (sym (client_ended s j start client w.0 client_is w.1) ∙ subst (λ n. resume s n start ≡ Some r) k_is is) in
      let inner : (acted : Acted) × (over ≡ Some acted) × (out.0 ≡ runs_again j acted) = mapped (runs_again j) over out.0 out.1 in
      subst (λ n. KeepsEveryone (event.Resume (record { 0 = n }) start) r) (sym k_is)
      (kept (event.Resume (record { 0 = length s.core.threads + j }) start) r (beside_core s.core (runs_again j inner.0)) (out.2 ∙ ap (λ (acted : Acted). beside_core s.core acted) inner.2)
      (client_resumes (counted from) entries s old j start client w.0 inner.0 client_is w.1 inner.1
      (counts_end from entries (length s.core.threads + j) start inner.0.answer no_seqs (end_same s.core.clock w.0 s.world inner.0 inner.1).1 counts.0 counts.1)))
  resume_by k start r is (is_none status_is) = let waits : status_at s k ≡ Some (status.Waiting start) = resume_is_of_waiting s k start r is in absurd (cc)

  device_by : (r : Stepped) → step s event.Device ≡ Some r → KeepsEveryone event.Device r
  unfolding step
  device_by r is =
      let out : (done : DeviceStep) × (device_step s ≡ Some done) × (r ≡ device_stepped done) = mapped device_stepped (device_step s) r is in
      kept event.Device r (device_stepped out.0) out.2 (device_turns (counted from) entries s old out.0 out.1)

  idle_by : (r : Stepped) → step s event.Idle ≡ Some r → KeepsEveryone event.Idle r
  unfolding step
  idle_by r is =
      let lawful : (idle_lawful s ≡ true) × (Some (idle s) ≡ Some r) = only_if (idle_lawful s) (Some (idle s)) r is in
      let same : idle s ≡ r = let both : Some (idle s) ≡ Some r = lawful.1 in cc in
      kept event.Idle r (idle s) (sym same) (idles (counted from) entries s old lawful.0)

  pub step_keeps : (e : Event) (r : Stepped) → step s e ≡ Some r → KeepsEveryone e r
  step_keeps (event.Begin actor start asked) r is = begin_by actor.0 start asked r (begun s actor.0 start asked r is) (actor_of s actor.0)
  step_keeps (event.Resume actor start) r is = resume_by actor.0 start r (ended s actor.0 start r is) (actor_of s actor.0)
  step_keeps event.Device r is = device_by r is
  step_keeps event.Idle r is = idle_by r is

-- So does every legal history.

entry_by : (s : State) (entry : Entry) (o : Option Stepped) → step s entry.event ≡ o → step_entry s entry.event ≡ Some entry
    → (r : Stepped) × (step s entry.event ≡ Some r) × (entry ≡ entry_of entry.event r)
entry_by s entry None is h = absurd (cc (rw is at h))
entry_by s entry (Some r) is h = (r, is, (let found : entry ≡ entry_of entry.event r = cc (rw is at h) in found))

-- the step of an entry
step_of_entry : (s : State) (entry : Entry) → step_entry s entry.event ≡ Some entry → (r : Stepped) × (step s entry.event ≡ Some r) × (entry ≡ entry_of entry.event r)
step_of_entry s entry h = entry_by s entry (step s entry.event) refl h

pub counted_along : (from : ℕ → ℕ) (entries : List Entry) (s : State) (more : List Entry) → Everyone (counted from) entries s → Legal s more
    → Everyone (counted from) (entries ++ more) (state_after s more)
counted_along from entries s [] old legal = subst (λ es. Everyone (counted from) es s) (sym (append-nil entries)) old
counted_along from entries s (entry ∷ more) old legal =
    let done : (r : Stepped) × (step s entry.event ≡ Some r) × (entry ≡ entry_of entry.event r) = step_of_entry s entry legal.0 in
    let next : next_state s entry.event ≡ done.0.state = ap (λ (o : Option Stepped). state_or s o) done.1 in
    let one : Everyone (counted from) (entries ++ entry ∷ []) (next_state s entry.event) =
    subst (λ (t : State). Everyone (counted from) (entries ++ entry ∷ []) t) (sym next)
    (subst (λ (x : Entry). Everyone (counted from) (entries ++ x ∷ []) done.0.state) (sym done.2) (step_keeps from entries s old entry.event done.0 done.1)) in
    subst (λ es. Everyone (counted from) es (state_after (next_state s entry.event) more)) (append_assoc entries (entry ∷ []) more)
    (counted_along from (entries ++ entry ∷ []) (next_state s entry.event) more one legal.1)

abbrev first_start : ℕ → ℕ
first_start k = 1

counted_after : (scene : SceneValue) (entries : List Entry) → Legal (opening scene) entries → Everyone (counted first_start) entries (state_after (opening scene) entries)
counted_after scene entries legal = counted_along first_start [] (opening scene) entries (counted_opened first_start (λ k. omega arith) scene) legal

pub has_answers : (scene : SceneValue) (entries : List Entry) (actor : ℕ) → Legal (opening scene) entries → HasAnswers actor entries (status_at (state_after (opening scene) entries) actor)
has_answers scene entries actor legal = answers_at first_start entries (state_after (opening scene) entries) (counted_after scene entries legal) actor

-- At each call all earlier ones have their answers, and at the end of each wait all but one.

legal_from : (s : State) (before after : List Entry) → Legal s (before ++ after) → Legal (state_after s before) after
legal_from s [] after legal = legal
legal_from s (first ∷ before) after legal = legal_from (next_state s first.event) before after legal.1

module _ (scene : SceneValue) (before : List Entry) (entry : Entry) (after : List Entry) (legal : Legal (opening scene) (before ++ entry ∷ after)) where
  there : State
  there = state_after (opening scene) before

  here_step : (e : Event) → entry.event ≡ e → (r : Stepped) × (step (state_after (opening scene) before) e ≡ Some r)
  here_step e is =
      let own : step_entry (state_after (opening scene) before) entry.event ≡ Some entry = (legal_from (opening scene) before (entry ∷ after) legal).0 in
      let done : (r : Stepped) × (step (state_after (opening scene) before) entry.event ≡ Some r) × (entry ≡ entry_of entry.event r) = step_of_entry (state_after (opening scene) before) entry own in
      (done.0, subst (λ (f : Event). step (state_after (opening scene) before) f ≡ Some done.0) is done.1)

  here_answers : (actor : ℕ) → HasAnswers actor before (status_at (state_after (opening scene) before) actor)
  here_answers actor = has_answers scene before actor (begins (opening scene) before (entry ∷ after) legal)

  pub call_answers : (actor start : ℕ) (asked : Call) → entry.event ≡ event.Begin (record { 0 = actor }) start asked → Open 0 actor start before
  call_answers actor start asked is =
      let done : (r : Stepped) × (step (state_after (opening scene) before) (event.Begin (record { 0 = actor }) start asked) ≡ Some r) = here_step (event.Begin (record { 0 = actor }) start asked) is in
      let runs : status_at (state_after (opening scene) before) actor ≡ Some (status.Running start) =
      begin_is_of_running (state_after (opening scene) before) actor start asked done.0 (begun (state_after (opening scene) before) actor start asked done.0 done.1) in
      subst (λ (o : Option ActorStatus). HasAnswers actor before o) runs (here_answers actor)

  pub end_answers_last : (actor start : ℕ) → entry.event ≡ event.Resume (record { 0 = actor }) start → Open 1 actor start before
  end_answers_last actor start is =
      let done : (r : Stepped) × (step (state_after (opening scene) before) (event.Resume (record { 0 = actor }) start) ≡ Some r) = here_step (event.Resume (record { 0 = actor }) start) is in
      let waits : status_at (state_after (opening scene) before) actor ≡ Some (status.Waiting start) =
      resume_is_of_waiting (state_after (opening scene) before) actor start done.0 (ended (state_after (opening scene) before) actor start done.0 done.1) in
      subst (λ (o : Option ActorStatus). HasAnswers actor before o) waits (here_answers actor)

-- Starts rise. Told for an actor that runs, the number of its start is not before any later one.

module _ (s : State) (entries : List Entry) (k start : ℕ) (runs : status_at s k ≡ Some (status.Running start)) where
  abbrev from_there : ℕ → ℕ
  from_there j = cond (j == k) start 1

  low_by : (j past : ℕ) (b : Bool) → (j == k) ≡ b → (j ≡ k → start ≤ past) → 1 ≤ past → cond b start 1 ≤ past
  low_by j past true is own low = own (grind (arith, nat_tests))
  low_by j past false is own low = low

  low_at : (j past : ℕ) → (j ≡ k → start ≤ past) → 1 ≤ past → from_there j ≤ past
  low_at j past own low = low_by j past (j == k) refl own low

  counts_there : (j : ℕ) (x : ActorStatus) → (j ≡ k → x ≡ status.Running start) → Counts first_start entries j x → Counts from_there entries j x
  counts_there j status.Off own counts = tt
  counts_there j (status.Running running) own counts =
      (counts.0, low_at j running (λ is. let same : running ≡ start = (let both : status.Running running ≡ status.Running start = own is in cc) in omega (arith, same)) counts.1)
  counts_there j (status.Waiting waiting) own counts =
      (counts.0, low_at j waiting (λ is. let both : status.Waiting waiting ≡ status.Running start = own is in absurd (cc)) counts.1)
  counts_there j (status.Ended past) own counts = tt

  runs_at : (j : ℕ) (x : ActorStatus) → status_at s j ≡ Some x → j ≡ k → x ≡ status.Running start
  runs_at j x is same = let both : Some x ≡ Some (status.Running start) = sym is ∙ (ap (λ n. status_at s n) same ∙ runs) in cc

  start_bound : (j n : ℕ) (thread : Thread) → slice_get s.core.threads j ≡ Some thread → start_of thread.activity ≤ n → j ≡ k → start ≤ n
  start_bound j n thread is bound same =
      let here : thread.activity ≡ activity.Running start =
      running_is thread.activity start (ap (λ x. Some x) (runs_at j (status_of thread.activity) (status_of_thread s j thread is) same)) in
      subst (λ (a : Activity). start_of a ≤ n) here bound

  pub counted_there : Everyone (counted first_start) entries s → Everyone (counted from_there) entries s
  counted_there old = record {
    all = λ j thread is.
        let stands : Stands (counted first_start) entries _ j thread = old.all j thread is in
        record {
          known = record {
            bound = stands.known.bound;
            later = λ n past n_is more.
                let unused : _ = stands.known.later n past n_is more in
                (unused.0, unused.1, low_at j past (λ same. omega (arith, start_bound j n thread is (stands.known.bound n n_is) same, more)) unused.2);
            thread = tt;
          };
          fits = counts_there j (status_of thread.activity) (runs_at j (status_of thread.activity) (status_of_thread s j thread is)) stands.fits;
        };
    clients = λ j client is. record {
      known = tt;
      fits = counts_there (length s.core.threads + j) (client_status client.activity)
          (runs_at (length s.core.threads + j) (client_status client.activity) (status_of_client s j client is)) (old.clients j client is).fits;
    };
  }

  from_own : from_there k ≡ start
  from_own = rw (self_is k) refl

from_by : (from : ℕ → ℕ) (entries : List Entry) (k : ℕ) (x : ActorStatus) → Counts from entries k x → IsFrom (from k) (Some x)
from_by from entries k status.Off counts = tt
from_by from entries k (status.Running start) counts = counts.1
from_by from entries k (status.Waiting start) counts = counts.1
from_by from entries k (status.Ended start) counts = tt

from_if : (from : ℕ → ℕ) (entries : List Entry) (s : State) → Everyone (counted from) entries s → (k : ℕ) (o : Option ActorStatus) → status_at s k ≡ o → IsFrom (from k) o
from_if from entries s old k None is = tt
from_if from entries s old k (Some x) is = from_by from entries k x (counts_at from entries s old k x is)

state_both : (s : State) (before after : List Entry) → state_after s (before ++ after) ≡ state_after (state_after s before) after
state_both s [] after = refl
state_both s (first ∷ before) after = state_both (next_state s first.event) before after

pub starts_rise : (scene : SceneValue) (before after : List Entry) (actor start : ℕ) → Legal (opening scene) (before ++ after)
    → status_at (state_after (opening scene) before) actor ≡ Some (status.Running start) → IsFrom start (status_at (state_after (opening scene) (before ++ after)) actor)
starts_rise scene before after actor start legal runs =
    let s : State = state_after (opening scene) before in
    let from : ℕ → ℕ = λ j. cond (j == actor) start 1 in
    let old : Everyone (counted from) before s = counted_there s before actor start runs (counted_after scene before (begins (opening scene) before after legal)) in
    let all : Everyone (counted from) (before ++ after) (state_after s after) = counted_along from before s after old (legal_from (opening scene) before after legal) in
    subst (λ (t : State). IsFrom start (status_at t actor)) (sym (state_both (opening scene) before after))
    (subst (λ n. IsFrom n (status_at (state_after s after) actor)) (from_own s before actor start runs) (from_if from (before ++ after) (state_after s after) all actor (status_at (state_after s after) actor) refl))

pub first_rises : (scene : SceneValue) (entries : List Entry) (actor : ℕ) → Legal (opening scene) entries → IsFrom 1 (status_at (state_after (opening scene) entries) actor)
first_rises scene entries actor legal =
    from_if first_start entries (state_after (opening scene) entries) (counted_after scene entries legal) actor (status_at (state_after (opening scene) entries) actor) refl
