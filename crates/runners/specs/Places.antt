-- Where each actor stands at its script, and how that fits to a history.
use Rattle.std.specs.Prelude.{◌≡◌, ◌≤◌, ◌<◌, ◌+◌, ◌++◌, ◌&&◌, ◌⊎◌, ℕ, Bool, true, false, List, [], length, Option, Some, None, slice_get, slice_set, get_or, nat_lt, if◌then◌else◌}
use Rattle.std.specs.List.{count_by}
use Rattle.kernel_values.specs.SceneLaw.{IsLawfulScene, SceneValue, scripts_of}
use Rattle.kernel_values.specs.declared.entry.ActorStatus.TheVariants as status
use Rattle.kernel_values.specs.declared.entry.Entry.{Entry}
use Rattle.kernel_values.specs.declared.reply.Answer.{Answer}
use Rattle.kernel_values.specs.declared.scene.Turn.{Turn}
use Rattle.kernel_values.specs.declared.script.Command.{Command}
use Rattle.kernel_values.specs.declared.state.State.{State}
use Rattle.kernel_types.specs.Facts.{status_at}
use Rattle.kernel_types.specs.History.{state_after}
use Rattle.kernel_types.specs.Opening.{opening}
use Rattle.kernel_types.specs.Scripts.{script_begin, stand_on, answered}
use Rattle.kernel_types.specs.Whole.{calls_in, answers_in, final_answer, InScript}
use Rattle.kernel_types.specs.Step.{statuses}
use Rattle.kernel_types.specs.Turns.{history_limit, ran, run_by}
use Rattle.kernel_log.specs.Books.{is_of_actor}
use Rattle.kernel_log.specs.Logs.{Log, state_of}
use Rattle.script_actor.specs.Actors.{acting}
use Rattle.runners.specs.Runs.{run_logged}
use Rattle.runners.specs.declared.place.Place.{Place}

-- after the step of its call or of the end of its wait: with an answer that gives or refuses the actor goes on, else it waits

abbrev pub after_final : Place → Option Answer → Place
after_final place None = record place { waits = true }
after_final place (Some answer) = record {
  actor = record place.actor { stand = answered place.actor.script place.actor.stand answer };
  waits = false;
}

abbrev pub after_answer : Place → Answer → Place
after_answer place answer = after_final place (final_answer answer)

-- whether an entry has the answer to a call of the actor

abbrev pub is_final : Option Answer → Bool
is_final None = false
is_final (Some answer) = true

abbrev pub is_answer_to : ℕ → Entry → Bool
is_answer_to actor entry = is_final (final_answer entry.answer) && is_of_actor actor entry.event

-- how many calls of the actor were answered
abbrev pub answers_to : ℕ → List Entry → ℕ
answers_to actor entries = count_by (is_answer_to actor) entries

-- at the beginning of a script, by the first start
abbrev pub first_place : List Command → Place
first_place script = record { actor = acting script 1; waits = false }

-- the place of an actor that is in this start: at the beginning of its script, where it made no call by it yet
abbrev pub anew : List Command → ℕ → Place → Place
anew script start place = (if nat_lt place.actor.start start then record { actor = acting script start; waits = false } else place)

abbrev pub pending : Bool → ℕ
pending true = 1
pending false = 0

-- the place of an actor with this script after the entries: it stands where its answers by its start took it, one
-- call more than answers where it waits, and no later start made a call
pub record PlaceFits (number : ℕ) (script : List Command) (entries : List Entry) (place : Place) : Type 0 where
  pub script_is : place.actor.script ≡ script
  pub stand_is : place.actor.stand ≡ stand_on script script_begin (answers_in number place.actor.start entries)
  pub count : length (calls_in number place.actor.start entries) ≡ length (answers_in number place.actor.start entries) + pending place.waits
  pub later : (start : ℕ) → place.actor.start < start → (calls_in number start entries ≡ []) × (answers_in number start entries ≡ [])
  pub in_script : (start : ℕ) → InScript script (calls_in number start entries) (answers_in number start entries)

abbrev pub PlacesFit : List (List Command) → List Place → List Entry → Type 0
PlacesFit scripts places entries = (number : ℕ) (script : List Command) → slice_get scripts number ≡ Some script
    → (place : Place) × (slice_get places number ≡ Some place) × PlaceFits number script entries place

-- the actor ran by this start at some time of the history, or it is the first
abbrev pub HasRun : State → List Entry → ℕ → ℕ → Type 0
HasRun state entries number start = (start ≡ 1)
    ⊎ ((before : List Entry) × (after : List Entry) × (entries ≡ before ++ after) × (status_at (state_after state before) number ≡ Some (status.Running start)))

-- each actor ran by the start of its place
abbrev pub AllRan : List Place → State → List Entry → Type 0
AllRan places state entries = (number : ℕ) (place : Place) → slice_get places number ≡ Some place → HasRun state entries number place.actor.start

-- a scene has at most 32 applications of 4 threads, and 8 clients
abbrev pub most_actors : ℕ
most_actors = 136

-- the log is that of a run of a lawful scene with these scripts, by whatever turns
pub record IsOfScene (scripts : List (List Command)) (log : Log) : Type 0 where
  pub scene : SceneValue
  pub lawful : IsLawfulScene scene
  pub scripts_are : scripts ≡ scripts_of scene
  pub state_is : log.origin.state ≡ opening scene
  pub turns : List Turn
  pub run_is : run_by scene turns ≡ ran (run_logged log)

-- each actor has a place that fits, each script an actor, and the log is of a new kernel, of a run of a scene, and no longer than a run
pub record Sound (scripts : List (List Command)) (places : List Place) (log : Log) : Type 0 where
  pub kept : PlacesFit scripts places log.journal.entries
  pub ran : AllRan places log.origin.state log.journal.entries
  pub of_scene : IsOfScene scripts log
  pub many : length places ≡ length scripts
  pub actors : length (statuses (state_of log)) ≡ length scripts
  pub few : length scripts ≤ most_actors
  pub fresh : log.origin.made ≡ 0
  pub short : length log.journal.entries ≤ history_limit

-- each actor's count is that of its answered calls
pub record Counted (scripts : List (List Command)) (counts : List ℕ) (log : Log) : Type 0 where
  pub many : length counts ≡ length scripts
  pub each : (number count : ℕ) → slice_get counts number ≡ Some count → count ≡ answers_to number log.journal.entries

-- the counts after a step of the actor, with an answer or without one
abbrev pub recounted : List ℕ → ℕ → Bool → List ℕ
recounted counts actor true = slice_set counts actor (get_or counts actor 0 + 1)
recounted counts actor false = counts

-- what a run that is shared keeps
pub record Kept (scripts : List (List Command)) (places : List Place) (counts : List ℕ) (log : Log) : Type 0 where
  pub sound : Sound scripts places log
  pub counted : Counted scripts counts log
