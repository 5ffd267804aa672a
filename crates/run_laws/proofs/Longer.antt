-- Where threads stand after one more entry of the history.
use Rattle.std.proofs.Common.{◌≡◌, ℕ, ◌<◌, Bool, true, false, List, [], ◌∷◌, ◌++◌, Some, refl, ap, sym, ◌∙◌, arith}
use Rattle.std.proofs.lemmas.Bool.Decides.{nat_tests}
use Rattle.std.specs.Prelude.{slice_get, ◌==◌, ◌&&◌}
use Rattle.kernel_values.specs.declared.call.Call.{Call}
use Rattle.kernel_values.specs.declared.entry.ActorStatus.TheVariants as status
use Rattle.kernel_values.specs.declared.entry.Entry.{Entry}
use Rattle.kernel_values.specs.declared.entry.Event.{Event}
use Rattle.kernel_values.specs.declared.entry.Event.TheVariants as event
use Rattle.kernel_values.specs.declared.entry.Seqs.{Seqs}
use Rattle.kernel_values.specs.declared.reply.Answer.{Answer}
use Rattle.kernel_values.specs.declared.reply.Answer.TheVariants as answer
use Rattle.kernel_values.specs.declared.state.CoreState.{CoreState}
use Rattle.kernel_values.specs.declared.state.Thread.{Thread}
use Rattle.kernel_types.specs.CoreStep.{status_of}
use Rattle.kernel_types.specs.Whole.{answer_by, is_by, final_answer}
use Rattle.step_laws.proofs.Leaving.{starts_of}
use Rattle.run_laws.proofs.Finals.{IsFinal}
use Rattle.run_laws.proofs.Places.{AllBut, AllStand, Known, same_number, start_of}
use Rattle.run_laws.proofs.Standings.{IsSilent, Standings}

-- Whose call or answer an entry is.

both_not : (a b : Bool) → (a ≡ true → b ≡ true → ⊥) → (a && b) ≡ false
both_not true true never = absurd (never refl refl)
both_not true false never = refl
both_not false b never = refl

not_by : (k start j s : ℕ) → (j ≡ k → s ≡ start → ⊥) → is_by j s k start ≡ false
not_by k start j s never = both_not (k == j) (start == s) (λ p q. never (sym (same_number k j p)) (sym (same_number start s q)))

pub self_is : (n : ℕ) → (n == n) ≡ true
self_is n = grind (arith, nat_tests)

pub own_by : (k start : ℕ) → is_by k start k start ≡ true
own_by k start = rw (self_is k, self_is start) refl

-- an entry of this actor by this start
pub record IsOf (k start : ℕ) (entry : Entry) : Type 0 where
  pub own : answer_by k start entry ≡ final_answer entry.answer
  pub silent : (j s : ℕ) → (j ≡ k → s ≡ start → ⊥) → IsSilent j s entry

pub begin_is_of : (k start : ℕ) (asked : Call) (entry : Entry) → entry.event ≡ event.Begin (record { 0 = k }) start asked → IsOf k start entry
begin_is_of k start asked entry is = record {
  own = rw (is, own_by k start) refl;
  silent = λ j s never. (rw (is, not_by k start j s never) refl, rw (is, not_by k start j s never) refl);
}

pub resume_is_of : (k start : ℕ) (entry : Entry) → entry.event ≡ event.Resume (record { 0 = k }) start → IsOf k start entry
resume_is_of k start entry is = record {
  own = rw (is, own_by k start) refl;
  silent = λ j s never. (rw is refl, rw (is, not_by k start j s never) refl);
}

abbrev pub entry_with : Event → Answer → Seqs → Entry
entry_with e given seqs = record { event = e; answer = given; seqs = seqs }

-- What is said of the actor itself after its call, whether it is answered or waits.
pub record FitsCall (S : Standings) (entries : List Entry) (k start : ℕ) (asked : Call) : Type 0 where
  pub answered : (given : Answer) (seqs : Seqs) → IsFinal given
      → S.fits (entries ++ entry_with (event.Begin (record { 0 = k }) start asked) given seqs ∷ []) k (status.Running start)
  pub waits : (seqs : Seqs) → S.fits (entries ++ entry_with (event.Begin (record { 0 = k }) start asked) answer.Waits seqs ∷ []) k (status.Waiting start)

module _ (S : Standings) (entries : List Entry) (entry : Entry) where
  abbrev pub longer : List Entry
  longer = entries ++ entry ∷ []

  known_longer : (starts : List ℕ) (j app start : ℕ) → ((s : ℕ) → start < s → IsSilent j s entry) → Known S entries starts j app start → Known S longer starts j app start
  known_longer starts j app start silent known = record {
    bound = known.bound;
    later = λ n s is past. S.unused_longer entries entry j s (silent s (omega (arith, known.bound n is, past))) (known.later n s is past);
    thread = known.thread;
  }

  -- of an entry that is of no thread
  pub all_longer : (c : CoreState) → ((j : ℕ) (thread : Thread) → slice_get c.threads j ≡ Some thread → (s : ℕ) → IsSilent j s entry)
      → AllStand S entries c → AllStand S longer c
  all_longer c silent all j thread is = record {
    known = known_longer (starts_of c.apps) j thread.app (start_of thread.activity) (λ s past. silent j thread is s) (all j thread is).known;
    fits = S.fits_longer entries entry j (status_of thread.activity) (λ s. silent j thread is s) (all j thread is).fits;
  }

  -- of an entry of the thread `k`, which is in this start
  pub but_longer : (c : CoreState) (k start : ℕ) → IsOf k start entry → ((thread : Thread) → slice_get c.threads k ≡ Some thread → start_of thread.activity ≡ start)
      → AllStand S entries c → AllBut S longer k (starts_of c.apps) c.threads
  but_longer c k start of in_start all = record {
    known = λ j thread is. known_longer (starts_of c.apps) j thread.app (start_of thread.activity)
        (λ s past. of.silent j s (λ same t. omega (arith, past, t, in_start thread (ap (λ n. slice_get c.threads n) (sym same) ∙ is)))) (all j thread is).known;
    others = λ j thread is other. S.fits_longer entries entry j (status_of thread.activity) (λ s. of.silent j s (λ same t. other same)) (all j thread is).fits;
  }
