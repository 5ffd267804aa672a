-- How many calls of each actor have an answer: all of one that runs, all but one of one that waits. And no actor is in an earlier start than
-- a number that is told for it: the first, or one that it was in before.
use Rattle.std.proofs.Common.{◌≡◌, ℕ, ◌+◌, ◌<◌, ◌≤◌, true, List, [], ◌∷◌, ◌++◌, length, Option, Some, None, refl, ap, sym, ◌∙◌, subst, arith, append-nil, length-append}
use Rattle.std.specs.Prelude.{⊤}
use Rattle.std.specs.Option.{is_some}
use Rattle.kernel_values.specs.SceneLaw.{SceneValue}
use Rattle.kernel_values.specs.declared.call.Call.{Call}
use Rattle.kernel_values.specs.declared.entry.ActorStatus.{ActorStatus}
use Rattle.kernel_values.specs.declared.entry.ActorStatus.TheVariants as status
use Rattle.kernel_values.specs.declared.entry.Entry.{Entry}
use Rattle.kernel_values.specs.declared.entry.Event.{Event}
use Rattle.kernel_values.specs.declared.entry.Event.TheVariants as event
use Rattle.kernel_values.specs.declared.reply.Answer.{Answer}
use Rattle.kernel_values.specs.declared.reply.Answer.TheVariants as answer
use Rattle.kernel_values.specs.declared.state.State.{State}
use Rattle.kernel_types.specs.CoreStep.{status_of}
use Rattle.kernel_types.specs.Facts.{status_at}
use Rattle.kernel_types.specs.Opening.{opening}
use Rattle.kernel_types.specs.Step.{client_status}
use Rattle.kernel_types.specs.Whole.{answer_by, answers_in, call_by, calls_in, final_answer}
use Rattle.run_laws.specs.Answered.{HasAnswers, Open}
use Rattle.run_laws.proofs.Entries.{answers_more, calls_more}
use Rattle.run_laws.proofs.Everyone.{Actor, Everyone, actor_of}
use Rattle.run_laws.proofs.Everyone.Actor.{is_client, is_none, is_thread}
use Rattle.run_laws.proofs.Finals.{IsFinal}
use Rattle.run_laws.proofs.Longer.{FitsCall, entry_with, own_by}
use Rattle.run_laws.proofs.Opening.{everyone_opened}
use Rattle.run_laws.proofs.Standings.{IsSilent, Standings}

abbrev pub Counts : (ℕ → ℕ) → List Entry → ℕ → ActorStatus → Type 0
Counts from entries k status.Off = ⊤
Counts from entries k (status.Running start) = Open 0 k start entries × (from k ≤ start)
Counts from entries k (status.Waiting start) = Open 1 k start entries × (from k ≤ start)
Counts from entries k (status.Ended start) = ⊤

-- nothing by this start, which is not before the number that is told
abbrev pub IsUnused : (ℕ → ℕ) → List Entry → ℕ → ℕ → Type 0
IsUnused from entries k start = (calls_in k start entries ≡ []) × (answers_in k start entries ≡ []) × (from k ≤ start)

pub begins_counted : (from : ℕ → ℕ) (entries : List Entry) (k start : ℕ) → IsUnused from entries k start → Counts from entries k (status.Running start)
begins_counted from entries k start none_yet = (omega (arith, ap length none_yet.0, ap length none_yet.1), none_yet.2)

-- one more entry

module _ (entries : List Entry) (entry : Entry) (k start : ℕ) where
  same_calls : call_by k start entry.event ≡ None → calls_in k start (entries ++ entry ∷ []) ≡ calls_in k start entries
  same_calls none = calls_more k start entries entry None none ∙ append-nil _

  same_answers : answer_by k start entry ≡ None → answers_in k start (entries ++ entry ∷ []) ≡ answers_in k start entries
  same_answers none = answers_more k start entries entry None none ∙ append-nil _

  one_call : (asked : Call) → call_by k start entry.event ≡ Some asked → length (calls_in k start (entries ++ entry ∷ [])) ≡ length (calls_in k start entries) + 1
  one_call asked is = ap length (calls_more k start entries entry (Some asked) is) ∙ length-append (calls_in k start entries) (asked ∷ [])

  one_answer : (given : Answer) → answer_by k start entry ≡ Some given → length (answers_in k start (entries ++ entry ∷ [])) ≡ length (answers_in k start entries) + 1
  one_answer given is = ap length (answers_more k start entries entry (Some given) is) ∙ length-append (answers_in k start entries) (given ∷ [])

pub unused_longer : (from : ℕ → ℕ) (entries : List Entry) (entry : Entry) (k start : ℕ) → IsSilent k start entry → IsUnused from entries k start
    → IsUnused from (entries ++ entry ∷ []) k start
unused_longer from entries entry k start silent none_yet =
    (same_calls entries entry k start silent.0 ∙ none_yet.0, same_answers entries entry k start silent.1 ∙ none_yet.1, none_yet.2)

open_longer : (many : ℕ) (entries : List Entry) (entry : Entry) (k start : ℕ) → IsSilent k start entry → Open many k start entries → Open many k start (entries ++ entry ∷ [])
open_longer many entries entry k start silent open_so =
    omega (arith, open_so, ap length (same_calls entries entry k start silent.0), ap length (same_answers entries entry k start silent.1))

pub counts_longer : (from : ℕ → ℕ) (entries : List Entry) (entry : Entry) (k : ℕ) (x : ActorStatus) → ((start : ℕ) → IsSilent k start entry) → Counts from entries k x
    → Counts from (entries ++ entry ∷ []) k x
counts_longer from entries entry k status.Off silent counts = tt
counts_longer from entries entry k (status.Running start) silent counts = (open_longer 0 entries entry k start (silent start) counts.0, counts.1)
counts_longer from entries entry k (status.Waiting start) silent counts = (open_longer 1 entries entry k start (silent start) counts.0, counts.1)
counts_longer from entries entry k (status.Ended start) silent counts = tt

-- with the number that is told for each actor
abbrev pub counted : (ℕ → ℕ) → Standings
counted from = record {
  thread = λ k. ⊤;
  client = λ k. ⊤;
  unused = IsUnused from;
  fits = Counts from;
  off = λ entries k. tt;
  ended = λ entries k start. tt;
  begins = begins_counted from;
  unused_longer = unused_longer from;
  fits_longer = counts_longer from;
}

-- a call, and the end of a wait

some_final : (o : Option Answer) → is_some o ≡ true → (given : Answer) × (o ≡ Some given)
some_final None final = absurd (cc)
some_final (Some given) final = (given, refl)

pub counts_call : (from : ℕ → ℕ) (entries : List Entry) (k start : ℕ) (asked : Call) → Open 0 k start entries → from k ≤ start → FitsCall (counted from) entries k start asked
counts_call from entries k start asked even low =
    let e : Event = event.Begin (record { 0 = k }) start asked in
    record {
      answered = λ given seqs final.
          let entry : Entry = entry_with e given seqs in
          let last : (x : Answer) × (final_answer given ≡ Some x) = some_final (final_answer given) final in
          let own : answer_by k start entry ≡ Some last.0 = rw (own_by k start) last.1 in
          (omega (arith, even, one_call entries entry k start asked (rw (own_by k start) refl), one_answer entries entry k start last.0 own), low);
      waits = λ seqs.
          let entry : Entry = entry_with e answer.Waits seqs in
          (omega (arith, even, one_call entries entry k start asked (rw (own_by k start) refl), ap length (same_answers entries entry k start (rw (own_by k start) refl))), low);
    }

pub counts_end : (from : ℕ → ℕ) (entries : List Entry) (k start : ℕ) (given : Answer) (seqs : _) → IsFinal given → Open 1 k start entries → from k ≤ start
    → Counts from (entries ++ entry_with (event.Resume (record { 0 = k }) start) given seqs ∷ []) k (status.Running start)
counts_end from entries k start given seqs final odd low =
    let entry : Entry = entry_with (event.Resume (record { 0 = k }) start) given seqs in
    let last : (x : Answer) × (final_answer given ≡ Some x) = some_final (final_answer given) final in
    let own : answer_by k start entry ≡ Some last.0 = rw (own_by k start) last.1 in
    (omega (arith, odd, ap length (same_calls entries entry k start refl), one_answer entries entry k start last.0 own), low)

-- at the beginning

nothing_yet : (from : ℕ → ℕ) → ((k : ℕ) → from k ≤ 1) → (k s : ℕ) → 0 < s → IsUnused from [] k s
unfolding calls_in answers_in
nothing_yet from low k s past = (refl, refl, omega (arith, low k, past))

pub counted_opened : (from : ℕ → ℕ) → ((k : ℕ) → from k ≤ 1) → (scene : SceneValue) → Everyone (counted from) [] (opening scene)
counted_opened from low scene = everyone_opened (counted from) scene (λ k thread o. tt) (λ k client is. tt) (nothing_yet from low)

-- by the status of an actor

counts_by : (from : ℕ → ℕ) (entries : List Entry) (s : State) → Everyone (counted from) entries s → (k : ℕ) → Actor s k → (x : ActorStatus) → status_at s k ≡ Some x → Counts from entries k x
counts_by from entries s old k (is_thread thread thread_is is) x x_is =
    subst (λ y. Counts from entries k y) (let same : status_of thread.activity ≡ x = cc in same) (old.all k thread thread_is).fits
counts_by from entries s old k (is_client j client k_is client_is is) x x_is =
    subst (λ y. Counts from entries k y) (let same : client_status client.activity ≡ x = cc in same)
    (subst (λ n. Counts from entries n (client_status client.activity)) (sym k_is) (old.clients j client client_is).fits)
counts_by from entries s old k (is_none is) x x_is = absurd (cc)

pub counts_at : (from : ℕ → ℕ) (entries : List Entry) (s : State) → Everyone (counted from) entries s → (k : ℕ) (x : ActorStatus) → status_at s k ≡ Some x → Counts from entries k x
counts_at from entries s old k x is = counts_by from entries s old k (actor_of s k) x is

has_answers : (from : ℕ → ℕ) (entries : List Entry) (k : ℕ) (x : ActorStatus) → Counts from entries k x → HasAnswers k entries (Some x)
has_answers from entries k status.Off counts = tt
has_answers from entries k (status.Running start) counts = counts.0
has_answers from entries k (status.Waiting start) counts = counts.0
has_answers from entries k (status.Ended start) counts = tt

has_answers_if : (from : ℕ → ℕ) (entries : List Entry) (s : State) → Everyone (counted from) entries s → (k : ℕ) (o : Option ActorStatus) → status_at s k ≡ o → HasAnswers k entries o
has_answers_if from entries s old k None is = tt
has_answers_if from entries s old k (Some x) is = has_answers from entries k x (counts_at from entries s old k x is)

pub answers_at : (from : ℕ → ℕ) (entries : List Entry) (s : State) → Everyone (counted from) entries s → (k : ℕ) → HasAnswers k entries (status_at s k)
answers_at from entries s old k = has_answers_if from entries s old k (status_at s k) refl
