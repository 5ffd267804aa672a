-- What a kernel with a journal stands for.
use Rattle.std.specs.Prelude.{◌≡◌, ◌≤◌, ◌+◌, ◌++◌, ◌∷◌, [], ℕ, List, length, Some}
use Rattle.kernel_values.specs.Origin.{Origin}
use Rattle.kernel_values.specs.declared.entry.Event.{Event}
use Rattle.kernel_values.specs.declared.entry.Entry.{Entry}
use Rattle.kernel_values.specs.declared.entry.EndFacts.{EndFacts}
use Rattle.kernel_values.specs.declared.state.State.{State}
use Rattle.kernel_types.specs.declared.kernel.StepRefused.{StepRefused}
use Rattle.kernel_types.specs.Facts.{end_facts}
use Rattle.kernel_types.specs.History.{Legal, next_state, state_after, step_entry}
use Rattle.kernel_types.specs.Kernel.{CauseHolds}
use Rattle.kernel_log.specs.Books.{Book}

-- where the history began, and what was written since
pub record Log : Type 0 where
  pub origin : Origin
  pub journal : Book

-- the end facts of the states after each entry of a history
abbrev pub facts_along : State → List Entry → List EndFacts
facts_along s [] = []
facts_along s (entry ∷ entries) = end_facts (next_state s entry.event) ∷ facts_along (next_state s entry.event) entries

-- the state that a log has come to, and the steps made by then
abbrev pub state_of : Log → State
state_of log = state_after log.origin.state log.journal.entries

abbrev pub made_by : Log → ℕ
made_by log = log.origin.made + length log.journal.entries

-- the journal is a legal history from the origin, with the facts after each entry, and the kernel stands at its end
pub record Sound (log : Log) (s : State) (made : ℕ) : Type 0 where
  pub legal : Legal log.origin.state log.journal.entries
  pub facts_are : log.journal.facts ≡ facts_along log.origin.state log.journal.entries
  pub state_is : s ≡ state_of log
  pub made_is : made ≡ made_by log

-- the event's entry was written last, at the place, with the facts after it
pub record Wrote (event : Event) (log longer : Log) (place : ℕ) : Type 0 where
  pub entry : Entry
  pub entry_is : step_entry (state_of log) event ≡ Some entry
  pub origin_is : longer.origin ≡ log.origin
  pub place_is : place ≡ length log.journal.entries
  pub entries_are : longer.journal.entries ≡ log.journal.entries ++ entry ∷ []
  pub facts_are : longer.journal.facts ≡ log.journal.facts ++ end_facts (next_state (state_of log) event) ∷ []
  pub room_is : log.journal.room ≤ longer.journal.room + 1

-- the event comes back, and nothing was written
pub record StaysSame (event : Event) (log same : Log) (refused : StepRefused) : Type 0 where
  pub event_is : refused.event ≡ event
  pub origin_is : same.origin ≡ log.origin
  pub entries_are : same.journal.entries ≡ log.journal.entries
  pub facts_are : same.journal.facts ≡ log.journal.facts
  pub room_is : log.journal.room ≤ same.journal.room
  pub cause : CauseHolds event (state_of log) (made_by log) refused.cause
