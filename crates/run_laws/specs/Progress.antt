-- What it is that a run goes on.
use Rattle.std.specs.Prelude.{◌≡◌, ◌⊎◌, true, length, Some}
use Rattle.kernel_values.specs.SceneLaw.{SceneValue, scripts_of}
use Rattle.kernel_values.specs.declared.scene.Turn.{Turn}
use Rattle.kernel_values.specs.declared.scene.Turn.TheVariants as turn
use Rattle.kernel_values.specs.declared.state.State.{State}
use Rattle.kernel_types.specs.Facts.{is_at_end}
use Rattle.kernel_types.specs.Step.{device_has_work, idle_lawful, step}
use Rattle.kernel_types.specs.Turns.{Run, run_turn, takes_turn, history_limit}

-- the state allows the turn: the actor runs, or waits and may move; the device has work; Idle is lawful
abbrev pub MayTake : State → Turn → Type 0
MayTake s (turn.Actor actor) = takes_turn s actor ≡ true
MayTake s turn.Device = device_has_work s ≡ true
MayTake s turn.Idle = idle_lawful s ≡ true

-- the turn can be taken after the run: its event is there, and is lawful
abbrev pub CanBeTaken : SceneValue → Run → Turn → Type 0
CanBeTaken scene run due = (next : Run) × (run_turn step (scripts_of scene) run due ≡ Some next)

-- every actor is Ended or was never started, and the device has no work; or the run has as many entries as a run may have
abbrev pub IsWholeOrFull : Run → Type 0
IsWholeOrFull run = (is_at_end run.state ≡ true) ⊎ (length run.entries ≡ history_limit)
