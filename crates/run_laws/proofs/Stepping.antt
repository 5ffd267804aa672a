-- Steps of threads and of the kernel, from a state in which every thread stands.
use Rattle.std.proofs.Common.{◌≡◌, ℕ, Bool, true, false, cond, List, [], ◌∷◌, ◌++◌, Some, None, refl, ap, sym, ◌∙◌, subst}
use Rattle.std.specs.Prelude.{slice_get}
use Rattle.std.specs.List.{list_all}
use Rattle.kernel_values.specs.declared.call.Call.{Call}
use Rattle.kernel_values.specs.declared.call.Call.TheVariants as call
use Rattle.kernel_values.specs.declared.entry.ActorStatus.TheVariants as status
use Rattle.kernel_values.specs.declared.entry.Entry.{Entry}
use Rattle.kernel_values.specs.declared.entry.Event.{Event}
use Rattle.kernel_values.specs.declared.entry.Event.TheVariants as event
use Rattle.kernel_values.specs.declared.entry.Seqs.{Seqs}
use Rattle.kernel_values.specs.declared.reply.Answer.{Answer}
use Rattle.kernel_values.specs.declared.reply.Answer.TheVariants as answer
use Rattle.kernel_values.specs.declared.state.Activity.{Activity}
use Rattle.kernel_values.specs.declared.state.Activity.TheVariants as activity
use Rattle.kernel_values.specs.declared.state.CoreState.{CoreState}
use Rattle.kernel_values.specs.declared.state.State.{State}
use Rattle.kernel_values.specs.declared.state.Thread.{Thread}
use Rattle.kernel_values.specs.declared.state.Wait.{Wait}
use Rattle.kernel_types.specs.Applications.{exit, finish, application_ended, ended_activity, thread_ended, is_elsewhere_or_over}
use Rattle.kernel_types.specs.Objects.{map_at}
use Rattle.kernel_types.specs.Outcome.{Outcome}
use Rattle.kernel_types.specs.CoreStep.{act, swept, core_begin, resumed, core_resume, core_idle, status_of}
use Rattle.kernel_types.specs.Step.{step, in_world, idle, idle_lawful, next_deadline}
use Rattle.kernel_types.specs.Sweep.{sweep, kept, pruned}
use Rattle.kernel_types.specs.Threads.{with_activity, activity_changed, running_activity, waiting_activity}
use Rattle.kernel_types.specs.Waits.{end_of_wait}
use Rattle.kernel_types.proofs.Actors.{thread_is_thread}
use Rattle.step_laws.proofs.Leaving.{Quiet, starts_of}
use Rattle.step_laws.specs.Walks.{is_ending}
use Rattle.run_laws.proofs.Acting.{Upheld, act_upholds}
use Rattle.kernel_values.specs.Calls.{is_of_thread}
use Rattle.run_laws.proofs.Longer.{FitsCall, IsOf, all_longer, begin_is_of, but_longer, entry_with, resume_is_of, self_is}
use Rattle.run_laws.proofs.Places.{AllBut, AllStand, OthersFit, all_changed, all_with, apart, ended_stands, idle_stands, quiet_but, quiet_stands, same_start_ended, same_start_running, same_start_waiting, start_of, started_stands}
use Rattle.run_laws.proofs.Standings.{Standings}
use Rattle.step_laws.proofs.TurnLeaving.{quiet_end}

pub swept_stands : (S : Standings) (entries : List Entry) (c : CoreState) → AllStand S entries c → AllStand S entries (sweep c)
unfolding sweep kept pruned
swept_stands S entries c all = all

-- A call of the thread `k`, which runs by this start.

module _ (S : Standings) (entries : List Entry) (c : CoreState) (k start : ℕ) (thread : Thread) where
  record Runs : Type 0 where
    all : AllStand S entries c
    thread_is : slice_get c.threads k ≡ Some thread
    activity_is : thread.activity ≡ activity.Running start

  same_thread : Runs → (other : Thread) → slice_get c.threads k ≡ Some other → thread ≡ other
  same_thread r other is = let t_is : slice_get c.threads k ≡ Some thread = r.thread_is in cc

  runs_here : Runs → (other : Thread) → slice_get c.threads k ≡ Some other → other.activity ≡ activity.Running start
  runs_here r other is = ap (λ (t : Thread). t.activity) (sym (same_thread r other is)) ∙ r.activity_is

  -- all others stand at the longer history
  others_stand : (entry : Entry) → Runs → IsOf k start entry → AllBut S (entries ++ entry ∷ []) k (starts_of c.apps) c.threads
  others_stand entry r of = but_longer S entries entry c k start of (λ t t_is. ap (λ (a : Activity). start_of a) (runs_here r t t_is)) r.all

  -- a call that does not end the thread
  call_upheld : Runs → (asked : Call) → FitsCall S entries k start asked → Upheld c k
  call_upheld r asked own =
      let e : Event = event.Begin (record { 0 = k }) start asked in
      let but : (given : Answer) (seqs : Seqs) (d : CoreState) → Quiet c d → AllBut S (entries ++ entry_with e given seqs ∷ []) k (starts_of d.apps) d.threads =
      λ given seqs d q. quiet_but S (entries ++ entry_with e given seqs ∷ []) c d k q
      (others_stand (entry_with e given seqs) r (begin_is_of k start asked (entry_with e given seqs) refl)) in
      let ran : (d : CoreState) → Quiet c d → (other : Thread) → slice_get d.threads k ≡ Some other → other.activity ≡ activity.Running start =
      λ d q other is. runs_here r other (ap (λ ts. slice_get ts k) (sym q.threads) ∙ is) in
      record {
        holds = λ given d. (seqs : Seqs) → AllStand S (entries ++ entry_with e given seqs ∷ []) d;
        quiet = λ given d final q seqs. all_with S (entries ++ entry_with e given seqs ∷ []) d k (but given seqs d q)
            (λ other is. subst (λ (a : Activity). S.fits (entries ++ entry_with e given seqs ∷ []) k (status_of a)) (sym (ran d q other is)) (own.answered given seqs final));
        waits = λ d w q seqs. all_changed S (entries ++ entry_with e answer.Waits seqs ∷ []) (waiting_activity w) (same_start_waiting w) d k (but answer.Waits seqs d q)
            (λ other is. subst (λ (a : Activity). S.fits (entries ++ entry_with e answer.Waits seqs ∷ []) k (status_of (waiting_activity w a))) (sym (ran d q other is)) (own.waits seqs));
        begun = λ given d app u seqs. started_stands S (entries ++ entry_with e given seqs ∷ []) app d (u seqs);
      }

  -- a call that ends it

  others_of_app : (entry : Entry) → Runs → IsOf k start entry → OthersFit S (entries ++ entry ∷ []) thread.app c
  others_of_app entry r of j other is elsewhere =
      (others_stand entry r of).others j other is
      (λ same. apart other.app thread.app elsewhere (ap (λ (t : Thread). t.app) (sym (same_thread r other (ap (λ n. slice_get c.threads n) (sym same) ∙ is)))))

  exit_stands : (entry : Entry) → Runs → IsOf k start entry → AllStand S (entries ++ entry ∷ []) (exit c thread.app).core
  unfolding exit
  exit_stands entry r of = ended_stands S (entries ++ entry ∷ []) thread.app c (others_stand entry r of).known (others_of_app entry r of)

  thread_over : (entry : Entry) → Runs → IsOf k start entry → AllStand S (entries ++ entry ∷ []) (record c { threads = map_at thread_ended c.threads k })
  thread_over entry r of = all_changed S (entries ++ entry ∷ []) ended_activity same_start_ended c k (others_stand entry r of)
      (λ other is. subst (λ (a : Activity). S.fits (entries ++ entry ∷ []) k (status_of (ended_activity a))) (sym (runs_here r other is)) (S.ended (entries ++ entry ∷ []) k start))

  finished : (b : Bool) (app : ℕ) (longest : List Entry) (d : CoreState) → AllStand S longest d → AllStand S longest (cond b (application_ended app d) d)
  finished true app longest d all = ended_stands S longest app d (λ j t is. (all j t is).known) (λ j t is elsewhere. (all j t is).fits)
  finished false app longest d all = all

  finish_stands : (entry : Entry) → Runs → IsOf k start entry → AllStand S (entries ++ entry ∷ []) (finish c k thread.app).core
  unfolding finish
  finish_stands entry r of =
      let d : CoreState = record c { threads = map_at thread_ended c.threads k } in
      finished (list_all (is_elsewhere_or_over thread.app) d.threads) thread.app (entries ++ entry ∷ []) d (thread_over entry r of)

  -- every next call

  ending_stands : (entry : Entry) (asked : Call) (outcome : Outcome) → Runs → IsOf k start entry → is_ending asked ≡ true → act c k thread.app asked ≡ Some outcome
      → AllStand S (entries ++ entry ∷ []) outcome.core
  unfolding act
  ending_stands entry (call.Exit code) outcome r of ends is =
      subst (λ (o : Outcome). AllStand S (entries ++ entry ∷ []) o.core) (let same : exit c thread.app ≡ outcome = cc in same) (exit_stands entry r of)
  ending_stands entry call.Finish outcome r of ends is =
      subst (λ (o : Outcome). AllStand S (entries ++ entry ∷ []) o.core) (let same : finish c k thread.app ≡ outcome = cc in same) (finish_stands entry r of)
  ending_stands entry _ outcome r of ends is = absurd (cc)

  abbrev pub begin_entry : Call → Outcome → Entry
  begin_entry asked outcome = entry_with (event.Begin (record { 0 = k }) start asked) outcome.answer outcome.seqs

  act_stands : (asked : Call) (outcome : Outcome) (b : Bool) → is_ending asked ≡ b → Runs → (is_ending asked ≡ false → FitsCall S entries k start asked)
      → act c k thread.app asked ≡ Some outcome → AllStand S (entries ++ begin_entry asked outcome ∷ []) outcome.core
  unfolding call_upheld
  act_stands asked outcome true ends r own is = ending_stands (begin_entry asked outcome) asked outcome r (begin_is_of k start asked (begin_entry asked outcome) refl) ends is
  act_stands asked outcome false ends r own is = act_upholds c k (call_upheld r asked (own ends)) thread.app asked outcome ends is outcome.seqs

  pub begin_stands : (asked : Call) (outcome : Outcome) → AllStand S entries c → slice_get c.threads k ≡ Some thread → thread.activity ≡ activity.Running start
      → (is_ending asked ≡ false → FitsCall S entries k start asked) → act c k thread.app asked ≡ Some outcome
      → AllStand S (entries ++ begin_entry asked outcome ∷ []) (swept outcome).core
  begin_stands asked outcome all thread_is activity_is own is =
      swept_stands S (entries ++ begin_entry asked outcome ∷ []) outcome.core
      (act_stands asked outcome (is_ending asked) refl (record { all = all; thread_is = thread_is; activity_is = activity_is }) own is)

  -- the end of a wait

  abbrev pub resume_entry : Outcome → Entry
  resume_entry outcome = entry_with (event.Resume (record { 0 = k }) start) outcome.answer outcome.seqs

  pub resume_stands : (w : Wait) (outcome : Outcome) → AllStand S entries c → slice_get c.threads k ≡ Some thread → thread.activity ≡ activity.Waiting start w
      → end_of_wait c thread.app w ≡ Some outcome → S.fits (entries ++ resume_entry outcome ∷ []) k (status.Running start)
      → AllStand S (entries ++ resume_entry outcome ∷ []) (resumed k outcome).core
  resume_stands w outcome all thread_is activity_is is own =
      let longest : List Entry = entries ++ resume_entry outcome ∷ [] in
      let here : (other : Thread) → slice_get c.threads k ≡ Some other → other.activity ≡ activity.Waiting start w =
      λ other other_is. ap (λ (t : Thread). t.activity) (let same : other ≡ thread = cc in same) ∙ activity_is in
      let q : Quiet c outcome.core = quiet_end c thread.app w outcome is in
      let runs : AllStand S longest (with_activity running_activity k c) =
      all_changed S longest running_activity same_start_running c k
      (but_longer S entries (resume_entry outcome) c k start (resume_is_of k start (resume_entry outcome) refl) (λ t t_is. ap (λ (a : Activity). start_of a) (here t t_is)) all)
      (λ other other_is. subst (λ (a : Activity). S.fits longest k (status_of (running_activity a))) (sym (here other other_is)) own) in
      swept_stands S longest (with_activity running_activity k outcome.core)
      (quiet_stands S longest (with_activity running_activity k c) (with_activity running_activity k outcome.core)
      (record { threads = ap (λ ts. map_at (activity_changed running_activity) ts k) q.threads; starts = q.starts }) runs)

-- Idle.
pub idle_after : (S : Standings) (entries : List Entry) (s : State) → AllStand S entries s.core
    → AllStand S (entries ++ entry_with event.Idle (idle s).answer (idle s).seqs ∷ []) (idle s).state.core
idle_after S entries s all =
    let entry : Entry = entry_with event.Idle (idle s).answer (idle s).seqs in
    swept_stands S (entries ++ entry ∷ []) (core_idle (next_deadline s) s.core)
    (idle_stands S (entries ++ entry ∷ []) s.core (next_deadline s) (all_longer S entries entry s.core (λ j thread is start. (refl, refl)) all))

-- The steps of the whole state.

pub begin_step : (s : State) (k start : ℕ) (thread : Thread) (asked : Call) (outcome : Outcome) → slice_get s.core.threads k ≡ Some thread → thread.activity ≡ activity.Running start
    → is_of_thread asked ≡ true → act s.core k thread.app asked ≡ Some outcome → step s (event.Begin (record { 0 = k }) start asked) ≡ Some (in_world s.world (swept outcome))
unfolding step core_begin
begin_step s k start thread asked outcome thread_is activity_is kind is =
    rw (thread_is_thread s k thread thread_is, thread_is, activity_is, self_is start, is) refl

pub resume_step : (s : State) (k start : ℕ) (thread : Thread) (w : Wait) (outcome : Outcome) → slice_get s.core.threads k ≡ Some thread → thread.activity ≡ activity.Waiting start w
    → end_of_wait s.core thread.app w ≡ Some outcome → step s (event.Resume (record { 0 = k }) start) ≡ Some (in_world s.world (resumed k outcome))
unfolding step core_resume
resume_step s k start thread w outcome thread_is activity_is is = rw (thread_is_thread s k thread thread_is, thread_is, activity_is, self_is start, is) refl

pub stays_waiting : (s : State) (k start : ℕ) (thread : Thread) (w : Wait) → slice_get s.core.threads k ≡ Some thread → thread.activity ≡ activity.Waiting start w
    → end_of_wait s.core thread.app w ≡ None → step s (event.Resume (record { 0 = k }) start) ≡ None
unfolding step core_resume
stays_waiting s k start thread w thread_is activity_is is = rw (thread_is_thread s k thread thread_is, thread_is, activity_is, self_is start, is) refl

pub idle_step : (s : State) → idle_lawful s ≡ true → step s event.Idle ≡ Some (idle s)
unfolding step
idle_step s lawful = rw lawful refl
