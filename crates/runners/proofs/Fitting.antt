-- How an actor's place fits after one more entry.
use Rattle.std.proofs.Common.{◌≡◌, ℕ, ◌+◌, ◌<◌, Bool, true, false, List, [], ◌∷◌, ◌++◌, length, Option, Some, None, refl, ap, sym, ◌∙◌, subst, arith, length-append, append_assoc, append-nil, inl, inr}
use Rattle.std.proofs.lemmas.Bool.{cases_eq}
use Rattle.std.proofs.lemmas.Bool.Decides.{nat_tests}
use Rattle.script_actor.specs.Actors.{acting}
use Rattle.std.specs.Prelude.{◌==◌}
use mathlib.Core.List.{IsPrefix}
use Rattle.kernel_values.specs.declared.call.Call.{Call}
use Rattle.kernel_values.specs.declared.entry.Entry.{Entry}
use Rattle.kernel_values.specs.declared.entry.Event.{Event}
use Rattle.kernel_values.specs.declared.entry.Event.TheVariants as event
use Rattle.kernel_values.specs.declared.reply.Answer.{Answer}
use Rattle.kernel_values.specs.declared.script.Command.{Command}
use Rattle.kernel_types.specs.Scripts.{Stand, next_call, answered, stand_on, script_begin, calls_of}
use Rattle.kernel_types.specs.Whole.{calls_in, answers_in, call_by, is_by, is_event_by, final_answer, InScript}
use Rattle.runners.specs.declared.place.Place.{Place}
use Rattle.runners.specs.Places.{PlaceFits, pending, after_final, after_answer, first_place}
use Rattle.run_laws.proofs.Entries.{answers_more, calls_more, one_more}
use Rattle.run_laws.proofs.Scripting.{calls_grow, calls_next, stand_more}

prefix_trans : (xs ys zs : List Call) → IsPrefix xs ys → IsPrefix ys zs → IsPrefix xs zs
prefix_trans xs ys zs p q = (p.0 ++ q.0, sym (append_assoc xs p.0 q.0) ∙ (ap (λ w. w ++ q.0) p.1 ∙ q.1))

-- whose an entry is

in_script_same : (script : List Command) (calls same : List Call) (answers alike : List Answer) → calls ≡ same → answers ≡ alike
    → InScript script calls answers → InScript script same alike
in_script_same script calls same answers alike p q h =
    subst (λ (bs : List Answer). InScript script same bs) q (subst (λ (cs : List Call). InScript script cs answers) p h)

-- an entry adds these calls and answers of a start, and none of any other
record Adds (number start : ℕ) (entries longer : List Entry) (call : Option Call) (answer : Option Answer) : Type 0 where
  calls : calls_in number start longer ≡ calls_in number start entries ++ one_more call
  answers : answers_in number start longer ≡ answers_in number start entries ++ one_more answer
  other_calls : (other : ℕ) → (start ≡ other → ⊥) → calls_in number other longer ≡ calls_in number other entries
  other_answers : (other : ℕ) → (start ≡ other → ⊥) → answers_in number other longer ≡ answers_in number other entries

self_is : (number : ℕ) → (number == number) ≡ true
self_is number = grind (arith, nat_tests)

other_is : (start other : ℕ) → (start ≡ other → ⊥) → (start == other) ≡ false
other_is start other apart = grind (arith, nat_tests)

mine : (number start : ℕ) → is_by number start number start ≡ true
mine number start = rw (self_is number, self_is start) refl

not_mine : (number start other : ℕ) → (start ≡ other → ⊥) → is_by number other number start ≡ false
not_mine number start other apart = rw (self_is number, other_is start other apart) refl

adds : (number start : ℕ) (entries : List Entry) (entry : Entry) (call : Option Call) → call_by number start entry.event ≡ call
    → is_event_by number start entry.event ≡ true → ((other : ℕ) → (start ≡ other → ⊥) → call_by number other entry.event ≡ None)
    → ((other : ℕ) → (start ≡ other → ⊥) → is_event_by number other entry.event ≡ false)
    → Adds number start entries (entries ++ entry ∷ []) call (final_answer entry.answer)
adds number start entries entry call own is none_other not_other = record {
  calls = calls_more number start entries entry call own;
  answers = answers_more number start entries entry (final_answer entry.answer) (rw is refl);
  other_calls = λ other apart. calls_more number other entries entry None (none_other other apart) ∙ append-nil _;
  other_answers = λ other apart. answers_more number other entries entry None (rw (not_other other apart) refl) ∙ append-nil _;
}

begin_adds : (number start : ℕ) (call : Call) (entries : List Entry) (entry : Entry) → entry.event ≡ event.Begin (record { 0 = number }) start call
    → Adds number start entries (entries ++ entry ∷ []) (Some call) (final_answer entry.answer)
begin_adds number start call entries entry is = adds number start entries entry (Some call) (rw (is, mine number start) refl) (rw (is, mine number start) refl)
    (λ other apart. rw (is, not_mine number start other apart) refl) (λ other apart. rw (is, not_mine number start other apart) refl)

resume_adds : (number start : ℕ) (entries : List Entry) (entry : Entry) → entry.event ≡ event.Resume (record { 0 = number }) start
    → Adds number start entries (entries ++ entry ∷ []) None (final_answer entry.answer)
resume_adds number start entries entry is = adds number start entries entry None (rw is refl) (rw (is, mine number start) refl)
    (λ other apart. rw is refl) (λ other apart. rw (is, not_mine number start other apart) refl)

-- the place of the actor that made the step

in_script_own : (number start : ℕ) (script : List Command) (entries longer : List Entry) (call : Option Call) (answer : Option Answer) → Adds number start entries longer call answer
    → ((other : ℕ) → InScript script (calls_in number other entries) (answers_in number other entries))
    → IsPrefix (calls_in number start entries ++ one_more call) (calls_of script (answers_in number start entries))
    → length (calls_in number start entries ++ one_more call) ≡ length (answers_in number start entries) + 1
    → (other : ℕ) → InScript script (calls_in number other longer) (answers_in number other longer)
in_script_own number start script entries longer call answer a old begins many other = elim (cases_eq start other) [
  | inl same ↦ subst (λ (s : ℕ). InScript script (calls_in number s longer) (answers_in number s longer)) same
      (in_script_same script _ _ _ _ (sym a.calls) (sym a.answers) (
        prefix_trans _ _ _ begins (calls_grow script (answers_in number start entries) (one_more answer)),
        omega (arith, many, length-append (answers_in number start entries) (one_more answer)),
      ))
  | inr apart ↦ in_script_same script _ _ _ _ (sym (a.other_calls other apart)) (sym (a.other_answers other apart)) (old other)
]

fits_own : (number : ℕ) (script : List Command) (entries longer : List Entry) (place : Place) (call : Option Call) (answer : Option Answer)
    → PlaceFits number script entries place → Adds number place.actor.start entries longer call answer
    → IsPrefix (calls_in number place.actor.start entries ++ one_more call) (calls_of script (answers_in number place.actor.start entries))
    → length (calls_in number place.actor.start entries ++ one_more call) ≡ length (answers_in number place.actor.start entries) + 1
    → PlaceFits number script longer (after_final place answer)
fits_own number script entries longer place call None f a begins many = record {
  script_is = f.script_is;
  stand_is = f.stand_is ∙ ap (λ answers. stand_on script script_begin answers) (sym (a.answers ∙ append-nil _));
  count = ap length a.calls ∙ (many ∙ ap (λ n. n + 1) (ap length (sym (a.answers ∙ append-nil _))));
  later = λ other after. (a.other_calls other (λ same. absurd (omega (arith, same, after))) ∙ (f.later other after).0, a.other_answers other (λ same. absurd (omega (arith, same, after))) ∙ (f.later other after).1);
  in_script = in_script_own number place.actor.start script entries longer call None a f.in_script begins many;
}
fits_own number script entries longer place call (Some answer) f a begins many =
    let answers : List Answer = answers_in number place.actor.start entries in
    record {
      script_is = f.script_is;
      stand_is = (ap (λ (commands : List Command). answered commands place.actor.stand answer) f.script_is ∙ ap (λ (stand : Stand). answered script stand answer) f.stand_is)
          ∙ (sym (stand_more script script_begin answers answer) ∙ ap (λ (bs : List Answer). stand_on script script_begin bs) (sym a.answers));
      count = ap length a.calls ∙ (many ∙ omega (arith, ap length a.answers, length-append answers (answer ∷ [])));
      later = λ other after. (a.other_calls other (λ same. absurd (omega (arith, same, after))) ∙ (f.later other after).0, a.other_answers other (λ same. absurd (omega (arith, same, after))) ∙ (f.later other after).1);
      in_script = in_script_own number place.actor.start script entries longer call (Some answer) a f.in_script begins many;
    }

-- its call
pub fits_begin : (number start : ℕ) (script : List Command) (entries : List Entry) (entry : Entry) (place : Place) (call : Call) → PlaceFits number script entries place
    → place.waits ≡ false → place.actor.start ≡ start → next_call place.actor.script place.actor.stand ≡ Some call
    → entry.event ≡ event.Begin (record { 0 = number }) start call → PlaceFits number script (entries ++ entry ∷ []) (after_answer place entry.answer)
fits_begin number start script entries entry place call f runs start_is next is =
    let s : ℕ = place.actor.start in
    let event_is : entry.event ≡ event.Begin (record { 0 = number }) s call = is ∙ ap (λ (n : ℕ). event.Begin (record { 0 = number }) n call) (sym start_is) in
    let calls : List Call = calls_in number s entries in
    let answers : List Answer = answers_in number s entries in
    let even : length calls ≡ length answers = omega (arith, f.count ∙ ap (λ (b : Bool). length answers + pending b) runs) in
    let comes : next_call script (stand_on script script_begin answers) ≡ Some call =
    sym (ap (λ (commands : List Command). next_call commands place.actor.stand) f.script_is ∙ ap (λ (stand : Stand). next_call script stand) f.stand_is) ∙ next in
    fits_own number script entries (entries ++ entry ∷ []) place (Some call) (final_answer entry.answer) f (begin_adds number s call entries entry event_is)
    (calls_next script answers calls call (f.in_script s).0 even comes) (omega (arith, even, length-append calls (call ∷ [])))

-- the end of its wait
pub fits_resume : (number start : ℕ) (script : List Command) (entries : List Entry) (entry : Entry) (place : Place) → PlaceFits number script entries place
    → place.waits ≡ true → place.actor.start ≡ start
    → entry.event ≡ event.Resume (record { 0 = number }) start → PlaceFits number script (entries ++ entry ∷ []) (after_answer place entry.answer)
fits_resume number start script entries entry place f waits start_is is =
    let s : ℕ = place.actor.start in
    let event_is : entry.event ≡ event.Resume (record { 0 = number }) s = is ∙ ap (λ (n : ℕ). event.Resume (record { 0 = number }) n) (sym start_is) in
    let calls : List Call = calls_in number s entries in
    let answers : List Answer = answers_in number s entries in
    let odd : length calls ≡ length answers + 1 = f.count ∙ ap (λ (b : Bool). length answers + pending b) waits in
    let all : calls ≡ calls ++ [] = sym (append-nil calls) in
    fits_own number script entries (entries ++ entry ∷ []) place None (final_answer entry.answer) f (resume_adds number s entries entry event_is)
    (subst (λ (cs : List Call). IsPrefix cs (calls_of script answers)) all (f.in_script s).0) (sym (ap length all) ∙ odd)

-- another's entry

abbrev pub IsNotBy : ℕ → Event → Type 0
IsNotBy number e = (start : ℕ) → (call_by number start e ≡ None) × (is_event_by number start e ≡ false)

pub fits_other : (number : ℕ) (script : List Command) (entries : List Entry) (entry : Entry) (place : Place) → IsNotBy number entry.event → PlaceFits number script entries place
    → PlaceFits number script (entries ++ entry ∷ []) place
fits_other number script entries entry place apart f =
    let same_calls : (s : ℕ) → calls_in number s (entries ++ entry ∷ []) ≡ calls_in number s entries =
    λ s. calls_more number s entries entry None (apart s).0 ∙ append-nil _ in
    let same_answers : (s : ℕ) → answers_in number s (entries ++ entry ∷ []) ≡ answers_in number s entries =
    λ s. answers_more number s entries entry None (let never = (apart s).1 in rw never refl) ∙ append-nil _ in
    record {
      script_is = f.script_is;
      stand_is = f.stand_is ∙ ap (λ (answers : List Answer). stand_on script script_begin answers) (sym (same_answers place.actor.start));
      count = ap length (same_calls place.actor.start) ∙ (f.count ∙ ap (λ (answers : List Answer). length answers + pending place.waits) (sym (same_answers place.actor.start)));
      later = λ s after. (same_calls s ∙ (f.later s after).0, same_answers s ∙ (f.later s after).1);
      in_script = λ s. in_script_same script _ _ _ _ (sym (same_calls s)) (sym (same_answers s)) (f.in_script s);
    }

-- a new start
pub fits_anew : (number start : ℕ) (script : List Command) (entries : List Entry) (place : Place) → PlaceFits number script entries place → place.actor.start < start
    → PlaceFits number script entries (record { actor = acting script start; waits = false })
fits_anew number start script entries place f after = record {
  script_is = refl;
  stand_is = ap (λ (answers : List Answer). stand_on script script_begin answers) (sym (f.later start after).1);
  count = omega (arith, ap length (f.later start after).0, ap length (f.later start after).1);
  later = λ s more. f.later s (omega (arith, after, more));
  in_script = f.in_script;
}

prefix_none : (calls : List Call) → IsPrefix [] calls
prefix_none calls = (calls, refl)

pub fits_first : (number : ℕ) (script : List Command) → PlaceFits number script [] (first_place script)
unfolding calls_in answers_in
fits_first number script = record {
  script_is = refl;
  stand_is = refl;
  count = refl;
  later = λ s after. (refl, refl);
  in_script = λ s. (prefix_none _, omega arith);
}
