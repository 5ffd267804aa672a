-- How many calls of each actor were answered, after one more entry.
use Rattle.std.proofs.Common.{◌≡◌, ℕ, zero, suc, ◌+◌, ◌<◌, Bool, true, false, cond, List, [], ◌∷◌, ◌++◌, length, Option, Some, None, Result, Ok, Err, refl, ap, sym, ◌∙◌, subst, arith, get_or, replicate, not, inl, inr}
use Rattle.std.specs.Prelude.{slice_get, slice_set, ◌==◌, ◌&&◌, IfOk, OnErr}
use Rattle.std.proofs.lemmas.Bool.{cases_eq}
use Rattle.std.proofs.lemmas.Bool.Decides.{nat_tests}
use Rattle.std.proofs.lemmas.List.Sums.{count_by-le-length, sum_by-cons}
use Rattle.std.proofs.lemmas.Option.{slice_get-get_or}
use Rattle.kernel_values.specs.declared.entry.Entry.{Entry}
use Rattle.kernel_values.specs.declared.entry.Event.{Event}
use Rattle.kernel_values.specs.declared.items.NoMemory.{NoMemory}
use Rattle.kernel_values.specs.declared.reply.Answer.{Answer}
use Rattle.kernel_values.specs.declared.script.Command.{Command}
use Rattle.kernel_types.specs.Kernel.{step_limit}
use Rattle.kernel_types.specs.Turns.{history_limit}
use Rattle.kernel_types.specs.Whole.{final_answer}
use Rattle.kernel_log.specs.Books.{is_of_actor}
use Rattle.kernel_log.specs.Logs.{Log, Wrote}
use Rattle.runners.specs.declared.place.Place.{Place}
use Rattle.runners.specs.declared.steps.Taken.{Taken}
use Rattle.runners.specs.declared.steps.Taken.TheVariants as taken
use Rattle.runners.specs.Places.{Counted, after_answer, after_final, answers_to, is_answer_to, is_final, recounted}
use Rattle.runners.specs.Steps.{CountedBy, IsSameLog, MadeBy}
use Rattle.runners.proofs.Stepping.{event_by, get_set_other, get_set_same, length_set}

-- one more entry

count_first : (number : ℕ) (entry : Entry) (entries : List Entry) → answers_to number (entry ∷ entries) ≡ cond (is_answer_to number entry) 1 0 + answers_to number entries
count_first number entry entries = sum_by-cons (λ (e : Entry). cond (is_answer_to number e) 1 0) entry entries

one_more : (number : ℕ) (entries : List Entry) (entry : Entry) → answers_to number (entries ++ entry ∷ []) ≡ answers_to number entries + cond (is_answer_to number entry) 1 0
one_more number [] entry = omega (arith, count_first number entry [])
one_more number (first ∷ entries) entry =
    omega (arith, count_first number first (entries ++ entry ∷ []), count_first number first entries, one_more number entries entry)

own_answer : (number : ℕ) (entry : Entry) (b : Bool) → is_of_actor number entry.event ≡ b → is_answer_to number entry ≡ (is_final (final_answer entry.answer) && b)
own_answer number entry b is = ap (λ c. is_final (final_answer entry.answer) && c) is

and_true : (a : Bool) → (a && true) ≡ a
and_true true = refl
and_true false = refl

and_false : (a : Bool) → (a && false) ≡ false
and_false true = refl
and_false false = refl

own_more : (number : ℕ) (entries : List Entry) (entry : Entry) → is_of_actor number entry.event ≡ true
    → answers_to number (entries ++ entry ∷ []) ≡ answers_to number entries + cond (is_final (final_answer entry.answer)) 1 0
own_more number entries entry own =
    one_more number entries entry ∙ ap (λ b. answers_to number entries + cond b 1 0) (own_answer number entry true own ∙ and_true (is_final (final_answer entry.answer)))

other_more : (number : ℕ) (entries : List Entry) (entry : Entry) → is_of_actor number entry.event ≡ false → answers_to number (entries ++ entry ∷ []) ≡ answers_to number entries
other_more number entries entry other =
    let never : is_answer_to number entry ≡ false = own_answer number entry false other ∙ and_false (is_final (final_answer entry.answer)) in
    one_more number entries entry ∙ (ap (λ b. answers_to number entries + cond b 1 0) never ∙ omega arith)

-- an actor does not wait where its step gave an answer

final_waits : (place : Place) (given : Option Answer) → not (after_final place given).waits ≡ is_final given
final_waits place None = refl
final_waits place (Some given) = refl

answer_waits : (place : Place) (given : Answer) → not (after_answer place given).waits ≡ is_final (final_answer given)
answer_waits place given = final_waits place (final_answer given)

-- the counts after a step of an actor

abbrev Fit : List ℕ → List Entry → Type 0
Fit counts entries = (number count : ℕ) → slice_get counts number ≡ Some count → count ≡ answers_to number entries

fit_own : (counts : List ℕ) (entries : List Entry) (entry : Entry) (number : ℕ) (answers : Bool) → Fit counts entries → number < length counts
    → is_of_actor number entry.event ≡ true → ((other : ℕ) → (number ≡ other → ⊥) → is_of_actor other entry.event ≡ false)
    → is_final (final_answer entry.answer) ≡ answers → Fit (recounted counts number answers) (entries ++ entry ∷ [])
fit_own counts entries entry number true fit within own apart is other count other_is =
    let old : slice_get counts number ≡ Some (get_or counts number 0) = slice_get-get_or counts number 0 within in
    elim (cases_eq number other) [
      | inl same ↦
          let set : slice_get (slice_set counts number (get_or counts number 0 + 1)) number ≡ Some (get_or counts number 0 + 1) =
          get_set_same counts number (get_or counts number 0) (get_or counts number 0 + 1) old in
          let here : slice_get (slice_set counts number (get_or counts number 0 + 1)) number ≡ Some count =
          ap (λ n. slice_get (slice_set counts number (get_or counts number 0 + 1)) n) same ∙ other_is in
          let found : get_or counts number 0 + 1 ≡ count = cc in
          let before : get_or counts number 0 ≡ answers_to number entries = fit number (get_or counts number 0) old in
          let more : answers_to number (entries ++ entry ∷ []) ≡ answers_to number entries + 1 =
          own_more number entries entry own ∙ ap (λ b. answers_to number entries + cond b 1 0) is in
          (sym found ∙ omega (arith, before, more)) ∙ ap (λ n. answers_to n (entries ++ entry ∷ [])) same
      | inr differs ↦ fit other count (sym (get_set_other counts number other (get_or counts number 0 + 1) differs) ∙ other_is) ∙ sym (other_more other entries entry (apart other differs))
    ]
fit_own counts entries entry number false fit within own apart is other count other_is =
    let before : count ≡ answers_to other entries = fit other count other_is in
    elim (cases_eq number other) [
      | inl same ↦
          let more : answers_to number (entries ++ entry ∷ []) ≡ answers_to number entries + 0 =
          own_more number entries entry own ∙ ap (λ b. answers_to number entries + cond b 1 0) is in
          before ∙ ap (λ n. answers_to n entries) (sym same) ∙ omega (arith, more) ∙ ap (λ n. answers_to n (entries ++ entry ∷ [])) same
      | inr differs ↦ before ∙ sym (other_more other entries entry (apart other differs))
    ]

length_recounted : (counts : List ℕ) (number : ℕ) (answers : Bool) → length (recounted counts number answers) ≡ length counts
length_recounted counts number true = length_set counts number (get_or counts number 0 + 1)
length_recounted counts number false = refl

fit_entries : (counts : List ℕ) (entries same : List Entry) → entries ≡ same → Fit counts entries → Fit counts same
fit_entries counts entries same is fit = subst (λ (es : List Entry). Fit counts es) is fit

-- whatever came of the step

pub counted_step : (result : Result Taken NoMemory) (scripts : List (List Command)) (counts recounts : List ℕ) (log after : Log) (e : Event) (number : ℕ) (place moved : Place)
    → Counted scripts counts log → number < length counts → is_of_actor number e ≡ true → ((other : ℕ) → (number ≡ other → ⊥) → is_of_actor other e ≡ false)
    → IfOk result (λ came. MadeBy e log after place moved came) → IfOk result (λ came. CountedBy moved number counts recounts came)
    → OnErr result (IsSameLog log after) → OnErr result (recounts ≡ counts) → Counted scripts recounts after
counted_step (Ok taken.Stepped) scripts counts recounts log after e number place moved counted within own apart made by same stays =
    let entry : Entry = made.1.entry in
    let is : entry.event ≡ e = event_by log after e made.0 made.1 in
    let answers : not moved.waits ≡ is_final (final_answer entry.answer) = ap (λ (p : Place). not p.waits) made.2 ∙ answer_waits place entry.answer in
    record {
      many = ap length by ∙ (length_recounted counts number (not moved.waits) ∙ counted.many);
      each = subst (λ (cs : List ℕ). Fit cs after.journal.entries) (sym by)
          (fit_entries (recounted counts number (not moved.waits)) (log.journal.entries ++ entry ∷ []) after.journal.entries (sym made.1.entries_are)
          (fit_own counts log.journal.entries entry number (not moved.waits) counted.each within (ap (λ (f : Event). is_of_actor number f) is ∙ own)
          (λ other differs. ap (λ (f : Event). is_of_actor other f) is ∙ apart other differs) (sym answers)));
    }
counted_step (Ok taken.Unlawful) scripts counts recounts log after e number place moved counted within own apart made by same stays = record {
  many = ap length by ∙ counted.many;
  each = subst (λ (cs : List ℕ). Fit cs after.journal.entries) (sym by) (fit_entries counts log.journal.entries after.journal.entries (sym made.1.1) counted.each);
}
counted_step (Err refused) scripts counts recounts log after e number place moved counted within own apart made by same stays = record {
  many = ap length stays ∙ counted.many;
  each = subst (λ (cs : List ℕ). Fit cs after.journal.entries) (sym stays) (fit_entries counts log.journal.entries after.journal.entries (sym same.1) counted.each);
}

-- after a step of none

pub counted_free : (scripts : List (List Command)) (counts : List ℕ) (log longer : Log) (e : Event) (at : ℕ) → Counted scripts counts log → Wrote e log longer at
    → ((other : ℕ) → is_of_actor other e ≡ false) → Counted scripts counts longer
counted_free scripts counts log longer e at counted wrote apart = record {
  many = counted.many;
  each = fit_entries counts (log.journal.entries ++ wrote.entry ∷ []) longer.journal.entries (sym wrote.entries_are)
      (λ number count is. counted.each number count is
      ∙ sym (other_more number log.journal.entries wrote.entry (ap (λ (f : Event). is_of_actor number f) (event_by log longer e at wrote) ∙ apart number)));
}

-- whose an event is

pub self_is : (number : ℕ) → (number == number) ≡ true
self_is number = grind (arith, nat_tests)

pub other_is : (number other : ℕ) → (number ≡ other → ⊥) → (number == other) ≡ false
other_is number other apart = grind (arith, nat_tests)

-- there is room for one more

pub count_there : (scripts : List (List Command)) (counts : List ℕ) (log : Log) (number : ℕ) → Counted scripts counts log → number < length scripts
    → get_or counts number 0 ≡ answers_to number log.journal.entries
count_there scripts counts log number counted within =
    counted.each number (get_or counts number 0) (slice_get-get_or counts number 0 (omega (arith, counted.many, within)))

pub count_room : (scripts : List (List Command)) (counts : List ℕ) (log : Log) (number : ℕ) → Counted scripts counts log → number < length scripts
    → length log.journal.entries < history_limit → get_or counts number 0 < step_limit
unfolding history_limit step_limit
count_room scripts counts log number counted within room =
    omega (arith, count_there scripts counts log number counted within, count_by-le-length (is_answer_to number) log.journal.entries, room)

-- at the beginning

get_none : (many number count : ℕ) → slice_get (replicate many 0) number ≡ Some count → count ≡ 0
get_none zero number count is = absurd (cc)
get_none (suc many) zero count is = let same : 0 ≡ count = cc in sym same
get_none (suc many) (suc number) count is = get_none many number count is

length_none : (many : ℕ) → length {A = ℕ} (replicate many 0) ≡ many
length_none zero = refl
length_none (suc many) = ap (λ n. suc n) (length_none many)

pub counted_new : (scripts : List (List Command)) (counts : List ℕ) (log : Log) → counts ≡ replicate (length scripts) 0 → log.journal.entries ≡ [] → Counted scripts counts log
counted_new scripts counts log counts_are none_yet = record {
  many = ap (λ (cs : List ℕ). length cs) counts_are ∙ length_none (length scripts);
  each = λ number count is. get_none (length scripts) number count (ap (λ (cs : List ℕ). slice_get cs number) (sym counts_are) ∙ is)
      ∙ ap (λ (es : List Entry). answers_to number es) (sym none_yet);
}
