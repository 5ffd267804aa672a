-- One more entry at the end of a history.
use Rattle.std.proofs.Common.{◌≡◌, ℕ, ◌+◌, List, [], ◌∷◌, ◌++◌, Some, refl, ap, sym, subst, length, ◌∙◌, arith, length-append, slice_get}
use Rattle.std.specs.Option.{option_map}
use Rattle.kernel_values.specs.declared.entry.Event.{Event}
use Rattle.kernel_values.specs.declared.entry.Entry.{Entry}
use Rattle.kernel_values.specs.declared.entry.EndFacts.{EndFacts}
use Rattle.kernel_values.specs.declared.reply.Answer.{Answer}
use Rattle.kernel_values.specs.declared.state.State.{State}
use Rattle.kernel_values.specs.Origin.{Origin}
use Rattle.kernel_types.specs.Facts.{end_facts}
use Rattle.kernel_types.specs.History.{Legal, next_state, state_after, step_entry}
use Rattle.kernel_types.specs.Kernel.{Did}
use Rattle.kernel_log.specs.Logs.{Log, Sound, facts_along}

state_more : (s : State) (entries : List Entry) (entry : Entry) → state_after s (entries ++ entry ∷ []) ≡ next_state (state_after s entries) entry.event
state_more s [] entry = refl
state_more s (first ∷ entries) entry = state_more (next_state s first.event) entries entry

facts_more : (s : State) (entries : List Entry) (entry : Entry)
    → facts_along s (entries ++ entry ∷ []) ≡ facts_along s entries ++ end_facts (next_state (state_after s entries) entry.event) ∷ []
facts_more s [] entry = refl
facts_more s (first ∷ entries) entry = ap (λ facts. end_facts (next_state s first.event) ∷ facts) (facts_more (next_state s first.event) entries entry)

legal_more : (s : State) (entries : List Entry) (entry : Entry) → Legal s entries → step_entry (state_after s entries) entry.event ≡ Some entry
    → Legal s (entries ++ entry ∷ [])
legal_more s [] entry legal next = (next, tt)
legal_more s (first ∷ entries) entry legal next = (legal.0, legal_more (next_state s first.event) entries entry legal.1 next)

-- a log by its parts
sound_parts : (log : Log) (t : State) (made : ℕ) (o : Origin) (entries : List Entry) (facts : List EndFacts) → log.origin ≡ o → log.journal.entries ≡ entries
    → log.journal.facts ≡ facts → Legal o.state entries → facts ≡ facts_along o.state entries → t ≡ state_after o.state entries → made ≡ o.made + length entries
    → Sound log t made
sound_parts log t made o entries facts o_is entries_are facts_are legal right state made_is = record {
  legal = rw (o_is, entries_are) legal;
  facts_are = rw (o_is, entries_are, facts_are) right;
  state_is = rw (o_is, entries_are) state;
  made_is = rw (o_is, entries_are) made_is;
}

-- the step of a kernel that stands at the end of its log, written with the facts after it
pub sound_more : (log longer : Log) (event : Event) (entry : Entry) (s t : State) (made remade : ℕ) → Sound log s made → Did event s t made remade entry
    → longer.origin ≡ log.origin → longer.journal.entries ≡ log.journal.entries ++ entry ∷ [] → longer.journal.facts ≡ log.journal.facts ++ end_facts t ∷ []
    → Sound longer t remade
sound_more log longer event entry s t made remade sound did o_is entries_are facts_are =
    let o : State = log.origin.state in
    let es : List Entry = log.journal.entries in
    let next : step_entry (state_after o es) entry.event ≡ Some entry =
    subst (λ (e : Event). step_entry (state_after o es) e ≡ Some entry) (sym did.event_is) (subst (λ (x : State). step_entry x event ≡ Some entry) sound.state_is did.entry_is) in
    let there : t ≡ next_state (state_after o es) entry.event =
    did.state_is ∙ (ap (λ (x : State). next_state x event) sound.state_is ∙ ap (λ (e : Event). next_state (state_after o es) e) (sym did.event_is)) in
    let facts : log.journal.facts ++ end_facts t ∷ [] ≡ facts_along o (es ++ entry ∷ []) =
    (ap (λ (fs : List EndFacts). fs ++ end_facts t ∷ []) sound.facts_are ∙ ap (λ (x : State). facts_along o es ++ end_facts x ∷ []) there) ∙ sym (facts_more o es entry) in
    let count : remade ≡ log.origin.made + length (es ++ entry ∷ []) = grind (arith, length-append, did.made_is, sound.made_is) in
    sound_parts longer t remade log.origin (es ++ entry ∷ []) (log.journal.facts ++ end_facts t ∷ []) o_is entries_are facts_are
    (legal_more o es entry sound.legal next) facts (there ∙ sym (state_more o es entry)) count

pub sound_same : (log same : Log) (s t : State) (made remade : ℕ) → Sound log s made → t ≡ s → remade ≡ made
    → same.origin ≡ log.origin → same.journal.entries ≡ log.journal.entries → same.journal.facts ≡ log.journal.facts → Sound same t remade
sound_same log same s t made remade sound state count o_is entries_are facts_are =
    sound_parts same t remade log.origin log.journal.entries log.journal.facts o_is entries_are facts_are
    sound.legal sound.facts_are (state ∙ sound.state_is) (count ∙ sound.made_is)

last_there : (entries : List Entry) (entry : Entry) → slice_get (entries ++ entry ∷ []) (length entries) ≡ Some entry
last_there [] entry = refl
last_there (first ∷ entries) entry = last_there entries entry

-- the answer of the entry that was written last
pub last_answer : (entries longer : List Entry) (entry : Entry) (place : ℕ) (answer : Answer) → longer ≡ entries ++ entry ∷ [] → place ≡ length entries
    → answer ≡ entry.answer → option_map (λ e. e.answer) (slice_get longer place) ≡ Some answer
last_answer entries longer entry place answer longer_is place_is answer_is = rw (longer_is, place_is, answer_is, last_there entries entry) refl
