-- What a history shows: each entry without the start number of its event and the numbers of its messages.
use Rattle.std.specs.Prelude.{ℕ, List, [], ◌∷◌}
use Rattle.kernel_values.specs.declared.call.Call.{Call}
use Rattle.kernel_values.specs.declared.reply.Answer.{Answer}
use Rattle.kernel_values.specs.declared.entry.Entry.{Entry}
use Rattle.kernel_values.specs.declared.entry.Event.{Event}
use Rattle.kernel_values.specs.declared.entry.Event.TheVariants as event
use Rattle.kernel_values.specs.declared.entry.EndFacts.{EndFacts}
use Rattle.kernel_types.specs.Turns.{Run}
use Rattle.kernel_types.specs.Facts.{end_facts}

pub data Shown : Type 0 where
  Called : (actor : ℕ) (call : Call) (answer : Answer) → Shown
  Resumed : (actor : ℕ) (answer : Answer) → Shown
  Moved : (answer : Answer) → Shown
  Idled : (answer : Answer) → Shown

abbrev pub shown_as : Event → Answer → Shown
shown_as (event.Begin actor start call) answer = Called actor.0 call answer
shown_as (event.Resume actor start) answer = Resumed actor.0 answer
shown_as event.Device answer = Moved answer
shown_as event.Idle answer = Idled answer

abbrev pub shown : List Entry → List Shown
shown [] = []
shown (entry ∷ entries) = shown_as entry.event entry.answer ∷ shown entries

-- What a run prints: its entries, and the facts at its end.
pub record Printout : Type 0 where
  pub entries : List Shown
  pub facts : EndFacts

abbrev pub told : Run → Printout
told run = record { entries = shown run.entries; facts = end_facts run.state }
