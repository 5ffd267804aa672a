-- How many of an actor's calls have an answer, and by which starts it ran.
use Rattle.std.specs.Prelude.{◌≡◌, ◌≤◌, ◌+◌, ℕ, List, Option, Some, length, ⊤}
use Rattle.kernel_values.specs.declared.entry.ActorStatus.{ActorStatus}
use Rattle.kernel_values.specs.declared.entry.ActorStatus.TheVariants as status
use Rattle.kernel_values.specs.declared.entry.Entry.{Entry}
use Rattle.kernel_types.specs.Whole.{answers_in, calls_in}

-- so many calls more than answers of the actor by this start
abbrev pub Open : ℕ → ℕ → ℕ → List Entry → Type 0
Open many actor start entries = length (calls_in actor start entries) ≡ length (answers_in actor start entries) + many

-- an actor that runs has as many answers as calls by its start, and one that waits, one call more
abbrev pub HasAnswers : ℕ → List Entry → Option ActorStatus → Type 0
HasAnswers actor entries (Some (status.Running start)) = Open 0 actor start entries
HasAnswers actor entries (Some (status.Waiting start)) = Open 1 actor start entries
HasAnswers actor entries other = ⊤

-- an actor that runs or waits does so by this start or a later one
abbrev pub IsFrom : ℕ → Option ActorStatus → Type 0
IsFrom first (Some (status.Running start)) = first ≤ start
IsFrom first (Some (status.Waiting start)) = first ≤ start
IsFrom first other = ⊤
