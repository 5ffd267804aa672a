-- The four forms of a report, as lines of words.
use Rattle.std.specs.Prelude.{ℕ, List, [], ◌∷◌, ◌++◌, ◌+◌, Option, Some, None, codes, decimal, length, map}
use Rattle.kernel_values.specs.declared.call.Call.{Call}
use Rattle.kernel_values.specs.declared.entry.Event.{Event}
use Rattle.kernel_values.specs.declared.entry.Event.TheVariants as event
use Rattle.kernel_values.specs.declared.entry.Entry.{Entry}
use Rattle.kernel_values.specs.declared.entry.EndFacts.{EndFacts}
use Rattle.kernel_values.specs.declared.reply.Answer.{Answer}
use Rattle.kernel_values.specs.SceneLaw.{SceneValue}
use Rattle.kernel_types.specs.Facts.{end_facts}
use Rattle.kernel_types.specs.History.{state_after}
use Rattle.kernel_types.specs.Opening.{opening}
use Rattle.kernel_log.specs.Logs.{facts_along}
use Rattle.report_text.specs.declared.form.Form.{Form}
use Rattle.report_text.specs.declared.form.Form.TheVariants.{History, Actors, Counts, Summary}
use Rattle.report_text.specs.Names.{actor_names, name_in}
use Rattle.report_text.specs.Answers.{answer_words}
use Rattle.report_text.specs.Calls.{call_words}
use Rattle.report_text.specs.Lines.{text_of}
use Rattle.report_text.specs.OwnCalls.{calls_of}
use Rattle.report_text.specs.declared.summary.Kind.TheVariants as kind
use Rattle.report_text.specs.Tallies.{count_of}

-- every form ends with the facts at the history's end
abbrev pub end_words : EndFacts → List (List ℕ)
end_words end = codes "end" ∷ codes "clock" ∷ decimal end.clock ∷ codes "objects" ∷ decimal end.objects ∷ codes "names" ∷ decimal end.names ∷ []

abbrev pub answered_by : List (List ℕ) → List (List ℕ)
answered_by answer = codes "->" ∷ answer

-- The history form: a line for each entry.

abbrev pub event_words : List (List ℕ) → Event → List (List ℕ)
event_words names (event.Begin actor start call) = name_in names actor.0 ∷ call_words call
event_words names (event.Resume actor start) = name_in names actor.0 ∷ codes "resume" ∷ []
event_words names event.Device = codes "device" ∷ []
event_words names event.Idle = codes "idle" ∷ []

unfoldable pub entry_words : List (List ℕ) → ℕ → Entry → List (List ℕ)
entry_words names k entry = decimal k ∷ event_words names entry.event ++ answered_by (answer_words entry.answer)

-- numbered from k on
abbrev pub entry_lines : List (List ℕ) → ℕ → List Entry → List (List (List ℕ))
entry_lines names k [] = []
entry_lines names k (entry ∷ entries) = entry_words names k entry ∷ entry_lines names (k + 1) entries

abbrev pub history_lines : List (List ℕ) → List Entry → List (List (List ℕ))
history_lines names entries = (codes "history" ∷ decimal (length entries) ∷ []) ∷ entry_lines names 0 entries

-- The actors form: for each actor a line for each of its calls.

abbrev pub outcome_words : Option Answer → List (List ℕ)
outcome_words None = codes "none" ∷ []
outcome_words (Some answer) = answer_words answer

unfoldable pub answered_call_words : Call × Option Answer → List (List ℕ)
answered_call_words (call, answer) = call_words call ++ answered_by (outcome_words answer)

abbrev pub actor_words : List ℕ → ℕ → List (List ℕ)
actor_words name calls = codes "actor" ∷ name ∷ codes "calls" ∷ decimal calls ∷ []

abbrev pub one_actor_lines : List Entry → ℕ → List ℕ → List (List (List ℕ))
one_actor_lines entries actor name = actor_words name (length (calls_of actor entries)) ∷ map answered_call_words (calls_of actor entries)

-- numbered from `actor` on
abbrev pub actors_lines : List Entry → ℕ → List (List ℕ) → List (List (List ℕ))
actors_lines entries actor [] = []
actors_lines entries actor (name ∷ names) = one_actor_lines entries actor name ++ actors_lines entries (actor + 1) names

-- The counts form: a line for the state after each entry.

unfoldable pub count_words : ℕ → EndFacts → List (List ℕ)
count_words k facts = decimal k ∷ codes "objects" ∷ decimal facts.objects ∷ codes "names" ∷ decimal facts.names ∷ []

abbrev pub count_line_at : ℕ → Option EndFacts → List (List (List ℕ))
count_line_at k None = []
count_line_at k (Some facts) = count_words k facts ∷ []

abbrev pub count_lines : ℕ → List Entry → List EndFacts → List (List (List ℕ))
count_lines k (entry ∷ entries) (facts ∷ later) = count_words k facts ∷ count_lines (k + 1) entries later
count_lines k entries facts = []

abbrev pub counts_lines : List Entry → List EndFacts → List (List (List ℕ))
counts_lines entries facts = (codes "counts" ∷ decimal (length entries) ∷ []) ∷ count_lines 0 entries facts

-- The summary form: two lines.

unfoldable pub history_words : List Entry → List (List ℕ)
history_words entries = codes "summary" ∷ codes "history" ∷ decimal (length entries)
    ∷ codes "begins" ∷ decimal (count_of kind.Begin entries) ∷ codes "resumes" ∷ decimal (count_of kind.Resume entries)
    ∷ codes "device" ∷ decimal (count_of kind.Device entries) ∷ codes "idle" ∷ decimal (count_of kind.Idle entries) ∷ []

unfoldable pub answers_words : List Entry → List (List ℕ)
answers_words entries = codes "answers" ∷ codes "given" ∷ decimal (count_of kind.Given entries) ∷ codes "refused" ∷ decimal (count_of kind.Refused entries) ∷ []

abbrev pub summary_lines : List Entry → List (List (List ℕ))
summary_lines entries = history_words entries ∷ answers_words entries ∷ []

-- all but the last line, by the names of the actors
abbrev pub body_lines : List (List ℕ) → List Entry → List EndFacts → Form → List (List (List ℕ))
body_lines names entries facts History = history_lines names entries
body_lines names entries facts Actors = actors_lines entries 0 names
body_lines names entries facts Counts = counts_lines entries facts
body_lines names entries facts Summary = summary_lines entries

-- the text of a report: of the entries, the facts after each, and the facts at the end
unfoldable pub report_told : SceneValue → List Entry → List EndFacts → EndFacts → Form → List ℕ
report_told scene entries facts end form = text_of (body_lines (actor_names scene) entries facts form ++ end_words end ∷ [])

-- the report of a history from the scene's beginning
unfoldable pub report : SceneValue → List Entry → Form → List ℕ
report scene entries form = report_told scene entries (facts_along (opening scene) entries) (end_facts (state_after (opening scene) entries)) form
