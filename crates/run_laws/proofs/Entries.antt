-- What one more entry adds to the calls and the answers of an actor's start.
use Rattle.std.proofs.Common.{◌≡◌, ℕ, List, [], ◌∷◌, ◌++◌, Option, Some, None, refl, ap, ◌∙◌}
use Rattle.std.specs.List.{filter_map}
use Rattle.std.proofs.lemmas.List.Elements.{filter_map-append}
use Rattle.kernel_values.specs.declared.call.Call.{Call}
use Rattle.kernel_values.specs.declared.entry.Entry.{Entry}
use Rattle.kernel_values.specs.declared.reply.Answer.{Answer}
use Rattle.kernel_types.specs.Whole.{calls_in, answers_in, call_by, answer_by}

abbrev pub one_more : {A : Type 0} → Option A → List A
one_more None = []
one_more (Some x) = x ∷ []

one_call : (number start : ℕ) (entry : Entry) (own : Option Call) → call_by number start entry.event ≡ own → filter_map (λ e. call_by number start e.event) (entry ∷ []) ≡ one_more own
one_call number start entry None is = rw is refl
one_call number start entry (Some call) is = rw is refl

pub calls_more : (number start : ℕ) (entries : List Entry) (entry : Entry) (own : Option Call) → call_by number start entry.event ≡ own
    → calls_in number start (entries ++ entry ∷ []) ≡ calls_in number start entries ++ one_more own
unfolding calls_in
calls_more number start entries entry own is =
    filter_map-append (λ e. call_by number start e.event) entries (entry ∷ []) ∙ ap (λ cs. filter_map (λ e. call_by number start e.event) entries ++ cs) (one_call number start entry own is)

one_answer : (number start : ℕ) (entry : Entry) (own : Option Answer) → answer_by number start entry ≡ own → filter_map (answer_by number start) (entry ∷ []) ≡ one_more own
one_answer number start entry None is = rw is refl
one_answer number start entry (Some answer) is = rw is refl

pub answers_more : (number start : ℕ) (entries : List Entry) (entry : Entry) (own : Option Answer) → answer_by number start entry ≡ own
    → answers_in number start (entries ++ entry ∷ []) ≡ answers_in number start entries ++ one_more own
unfolding answers_in
answers_more number start entries entry own is =
    filter_map-append (answer_by number start) entries (entry ∷ []) ∙ ap (λ cs. filter_map (answer_by number start) entries ++ cs) (one_answer number start entry own is)
