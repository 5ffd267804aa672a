-- The lines of the counts form from a place on.
use Rattle.std.proofs.Common.{◌≡◌, ◌<◌, ◌≤◌, inl, inr, ℕ, ◌+◌, List, [], ◌∷◌, ◌++◌, length, drop, refl, sym, ap, ◌∙◌, append-nil, arith, get_or}
use Rattle.std.specs.Prelude.{None, slice_get}
use Rattle.std.proofs.lemmas.Bool.{cases_lt}
use Rattle.std.proofs.lemmas.List.{drop_more, at_drop_all}
use Rattle.std.proofs.lemmas.Option.{slice_get-get_or, slice_get_past}
use Rattle.kernel_values.specs.declared.entry.Entry.{Entry}
use Rattle.kernel_values.specs.declared.entry.EndFacts.{EndFacts}
use Rattle.kernel_values.specs.declared.entry.Event.TheVariants as event
use Rattle.kernel_values.specs.declared.reply.Answer.TheVariants as answer
use Rattle.report_text.specs.Forms.{count_words, count_line_at, count_lines}
use Rattle.report_text.specs.Lines.{lined, text_of}

no_facts : (k : ℕ) (entries : List Entry) → count_lines k entries [] ≡ []
no_facts k [] = refl
no_facts k (entry ∷ entries) = refl

any_entry : Entry
any_entry = record { event = event.Idle; answer = answer.CancelAll; seqs = record { sent = None; opened = None; retired = None } }

any_facts : EndFacts
any_facts = record { clock = 0; objects = 0; names = 0 }

one_line : (words : List (List ℕ)) (lines : List (List (List ℕ))) → text_of (words ∷ lines) ≡ text_of (words ∷ []) ++ text_of lines
one_line words lines = ap (λ text. text ++ text_of lines) (sym (append-nil (lined words)))

pub counts_left : (k : ℕ) (entries : List Entry) (facts : List EndFacts) → k < length entries
    → text_of (count_lines k (drop k entries) (drop k facts))
    ≡ text_of (count_line_at k (slice_get facts k)) ++ text_of (count_lines (k + 1) (drop (k + 1) entries) (drop (k + 1) facts))
counts_left k entries facts below =
    let rest : List (List (List ℕ)) = count_lines (k + 1) (drop (k + 1) entries) (drop (k + 1) facts) in
    let entry_is = drop_more entries k any_entry below in
    elim (cases_lt k (length facts)) [
      | inl within ↦
          ap (λ es. text_of (count_lines k es (drop k facts))) entry_is
          ∙ ap (λ fs. text_of (count_lines k (get_or entries k any_entry ∷ drop (k + 1) entries) fs)) (drop_more facts k any_facts within)
          ∙ one_line (count_words k (get_or facts k any_facts)) rest
          ∙ ap (λ found. text_of (count_line_at k found) ++ text_of rest) (sym (slice_get-get_or facts k any_facts within))
      | inr past ↦
          at_drop_all (λ fs. text_of (count_lines k (drop k entries) fs)) facts k past
          ∙ ap text_of (no_facts k (drop k entries))
          ∙ sym (ap text_of (no_facts (k + 1) (drop (k + 1) entries)))
          ∙ sym (at_drop_all (λ fs. text_of (count_lines (k + 1) (drop (k + 1) entries) fs)) facts (k + 1) (omega (arith, past)))
          ∙ ap (λ found. text_of (count_line_at k found) ++ text_of rest) (sym (slice_get_past facts k past))
    ]

pub counts_done : (k : ℕ) (entries : List Entry) (facts : List EndFacts) → length entries ≤ k → text_of (count_lines k (drop k entries) facts) ≡ []
counts_done k entries facts past = at_drop_all (λ es. text_of (count_lines k es facts)) entries k past
