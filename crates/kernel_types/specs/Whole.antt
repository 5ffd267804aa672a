-- Whole histories: each actor's calls are its script's, each once, in order, to its end.
use Rattle.std.specs.Prelude.{◌≡◌, ◌≤◌, ℕ, Bool, false, List, ◌+◌, ◌==◌, ◌&&◌, length, Option, Some, None, slice_get, if◌then◌else◌, IsTrue}
use Rattle.std.specs.List.{filter_map}
use mathlib.Core.List.{IsPrefix}
use Rattle.kernel_values.specs.declared.call.Call.{Call}
use Rattle.kernel_values.specs.declared.entry.Entry.{Entry}
use Rattle.kernel_values.specs.declared.entry.Event.{Event}
use Rattle.kernel_values.specs.declared.entry.Event.TheVariants as event
use Rattle.kernel_values.specs.declared.reply.Answer.{Answer}
use Rattle.kernel_values.specs.declared.reply.Answer.TheVariants as answer
use Rattle.kernel_values.specs.declared.script.Command.{Command}
use Rattle.kernel_values.specs.declared.state.State.{State}
use Rattle.kernel_values.specs.SceneLaw.{SceneValue, scripts_of}
use Rattle.kernel_types.specs.Scripts.{calls_of}
use Rattle.kernel_types.specs.Opening.{opening}
use Rattle.kernel_types.specs.History.{state_after}
use Rattle.kernel_types.specs.Facts.{is_at_end}

abbrev pub is_by : ℕ → ℕ → ℕ → ℕ → Bool
is_by actor start other other_start = other == actor && other_start == start

-- an event's call, where it begins one of this actor and start
abbrev pub call_by : ℕ → ℕ → Event → Option Call
call_by actor start (event.Begin other other_start call) = (if is_by actor start other.0 other_start then Some call else None)
call_by actor start other = None

-- whether an event begins a call of this actor and start, or ends its wait
abbrev pub is_event_by : ℕ → ℕ → Event → Bool
is_event_by actor start (event.Begin other other_start call) = is_by actor start other.0 other_start
is_event_by actor start (event.Resume other other_start) = is_by actor start other.0 other_start
is_event_by actor start other = false

-- an answer that gives or refuses, which a wait's beginning does not
abbrev pub final_answer : Answer → Option Answer
final_answer (answer.Gives reply) = Some (answer.Gives reply)
final_answer (answer.Refuses errno) = Some (answer.Refuses errno)
final_answer other = None

abbrev pub answer_by : ℕ → ℕ → Entry → Option Answer
answer_by actor start entry = (if is_event_by actor start entry.event then final_answer entry.answer else None)

-- the calls of an actor by one of its starts, and the answers to them
unfoldable pub calls_in : ℕ → ℕ → List Entry → List Call
calls_in actor start entries = filter_map (λ entry. call_by actor start entry.event) entries

unfoldable pub answers_in : ℕ → ℕ → List Entry → List Answer
answers_in actor start entries = filter_map (answer_by actor start) entries

-- the calls are the script's on their own answers, as far as they go, and each but the last has its answer
abbrev pub InScript : List Command → List Call → List Answer → Type 0
InScript script calls answers = IsPrefix calls (calls_of script answers) × (length calls ≤ length answers + 1)

-- so for each actor and each start
abbrev pub FollowsScripts : List (List Command) → List Entry → Type 0
FollowsScripts scripts entries = (actor start : ℕ) (script : List Command) → slice_get scripts actor ≡ Some script
    → InScript script (calls_in actor start entries) (answers_in actor start entries)

-- and after the history every actor is Ended or was never started, and the device has no work
pub record IsWhole (state : State) (scripts : List (List Command)) (entries : List Entry) : Type 0 where
  pub follows : FollowsScripts scripts entries
  pub ended : IsTrue (is_at_end (state_after state entries))

abbrev pub IsWholeHistory : SceneValue → List Entry → Type 0
IsWholeHistory scene entries = IsWhole (opening scene) (scripts_of scene) entries
