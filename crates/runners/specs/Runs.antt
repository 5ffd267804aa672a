-- What runs come to.
use Rattle.std.specs.Prelude.{◌≡◌, ℕ, false, List, length, Option, Some, None, IsTrue, ⊤}
use Rattle.std.specs.List.{list_all}
use Rattle.kernel_values.specs.Origin.{Origin}
use Rattle.kernel_values.specs.SceneLaw.{SceneValue, scripts_of}
use Rattle.kernel_values.specs.declared.entry.ActorStatus.{ActorStatus}
use Rattle.kernel_values.specs.declared.entry.ActorStatus.TheVariants as status
use Rattle.kernel_values.specs.declared.entry.Entry.{Entry}
use Rattle.kernel_values.specs.declared.scene.Turn.{Turn}
use Rattle.kernel_values.specs.declared.script.Command.{Command}
use Rattle.kernel_values.specs.declared.state.State.{State}
use Rattle.kernel_types.specs.Carried.{IsCarried, is_honest}
use Rattle.kernel_types.specs.History.{Legal, state_after}
use Rattle.kernel_types.specs.Facts.{is_at_end}
use Rattle.kernel_types.specs.Opening.{opening}
use Rattle.kernel_types.specs.Whole.{FollowsScripts, IsWhole, IsWholeHistory}
use Rattle.kernel_types.specs.Step.{step}
use Rattle.kernel_types.specs.Turns.{Run, ran, refused, run_turn, run_from, run_by, replay_of, serial_from, serial_turns, history_limit}
use Rattle.kernel_log.specs.Logs.{Log, state_of}
use Rattle.runners.specs.declared.serial_order.RunRefused.{RunRefused}
use Rattle.runners.specs.declared.serial_order.RunRefused.TheVariants as run_refused
use Rattle.runners.specs.declared.replays.ReplayRefused.{ReplayRefused}
use Rattle.runners.specs.declared.replays.ReplayRefused.TheVariants as replay_refused
use Rattle.runners.specs.declared.steps.Taken.{Taken}
use Rattle.runners.specs.declared.steps.Taken.TheVariants.{Stepped, Unlawful}

-- what a kernel with its actors' scripts stands for
pub record ScriptedRun : Type 0 where
  pub origin : Origin
  pub history : List Entry

-- the history of the log, in which actors follow these scripts
abbrev pub told_of : List (List Command) → Log → ScriptedRun
told_of scripts log = record { origin = record { state = log.origin.state; scripts = scripts; made = 0 }; history = log.journal.entries }

abbrev pub state_told : ScriptedRun → State
state_told told = state_after told.origin.state told.history

-- the start by which an actor with this status runs
abbrev pub start_running : Option ActorStatus → Option ℕ
start_running (Some (status.Running start)) = Some start
start_running other = None

abbrev pub run_told : ScriptedRun → Run
run_told told = record { state = state_told told; entries = told.history }

-- the run is one turn longer; or the turn's event is not lawful, and all stands
abbrev pub TookTurn : Turn → ScriptedRun → ScriptedRun → Taken → Type 0
TookTurn turn told next Stepped = run_turn step told.origin.scripts (run_told told) turn ≡ Some (run_told next)
TookTurn turn told next Unlawful = (run_turn step told.origin.scripts (run_told told) turn ≡ None) × (next.history ≡ told.history)

-- the turn can be taken
abbrev pub CanTake : ScriptedRun → Turn → Type 0
CanTake told turn = (next : Run) × (run_turn step told.origin.scripts (run_told told) turn ≡ Some next)

abbrev pub run_logged : Log → Run
run_logged log = record { state = state_of log; entries = log.journal.entries }

-- the journal is the history of these turns: legal from the state in which the scene begins, and each actor's calls are its script's
pub record IsRunBy (scene : SceneValue) (turns : List Turn) (log : Log) : Type 0 where
  pub opening_is : log.origin.state ≡ opening scene
  pub run_is : run_by scene turns ≡ ran (run_logged log)
  pub legal : Legal (opening scene) log.journal.entries
  pub follows : FollowsScripts (scripts_of scene) log.journal.entries

-- Where clients write memory and rings through the driver alone, what came over the bridge is what was sent, byte for
-- byte and in order, as far as it came; and the device is not broken.

abbrev pub Carries : SceneValue → Log → Type 0
Carries scene log = IsTrue (list_all is_honest scene.clients) → IsCarried (opening scene) log.journal.entries

abbrev pub StoppedCarries : {K : Type 0} → SceneValue → RunRefused K → Type 0
StoppedCarries scene (run_refused.TooLong log) = Carries scene log
StoppedCarries scene other = ⊤

-- the whole run of the scene in the serial order
pub record IsWholeRun (scene : SceneValue) (turns : List Turn) (log : Log) : Type 0 where
  pub run : IsRunBy scene turns log
  pub whole : IsWholeHistory scene log.journal.entries

-- the first turns of a serial run, as many as a run may have, and it is not whole after them
pub record IsCutShort (scene : SceneValue) (log : Log) : Type 0 where
  pub run : IsRunBy scene (serial_turns scene) log
  pub full : length log.journal.entries ≡ history_limit
  pub unfinished : is_at_end (state_of log) ≡ false

abbrev pub IsStopped : {K : Type 0} → SceneValue → RunRefused K → Type 0
IsStopped scene (run_refused.TooLong log) = IsCutShort scene log
IsStopped scene run_refused.NoMemory = ⊤

-- the turns that the scene lists are lawful one after another, and whole at their end
pub record IsReplay (scene : SceneValue) (log : Log) : Type 0 where
  pub whole : IsWholeRun scene scene.turns log
  pub replay_is : replay_of scene ≡ ran (run_logged log)

abbrev pub IsReplayRefused : SceneValue → ReplayRefused → Type 0
IsReplayRefused scene (replay_refused.Turn k) = replay_of scene ≡ refused k
IsReplayRefused scene replay_refused.NoMemory = ⊤

-- the run went on by its serial turns, to its end or to as many entries as a run may have
pub record RanSerially (told next : ScriptedRun) : Type 0 where
  pub origin_is : next.origin ≡ told.origin
  pub run_is : run_from step told.origin.scripts 0 (run_told told) (serial_from step told.origin.scripts history_limit None (run_told told)) ≡ ran (run_told next)
  pub full : is_at_end (state_told next) ≡ false → length next.history ≡ history_limit

-- where a scene begins
abbrev pub origin_of : SceneValue → Origin
origin_of scene = record { state = opening scene; scripts = scripts_of scene; made = 0 }

-- the journal is a history from the origin by whatever turns: it is legal, and each actor's calls are its script's
pub record IsRun (origin : Origin) (log : Log) : Type 0 where
  pub state_is : log.origin.state ≡ origin.state
  pub legal : Legal origin.state log.journal.entries
  pub follows : FollowsScripts origin.scripts log.journal.entries

-- and it is whole
pub record IsRunToEnd (origin : Origin) (log : Log) : Type 0 where
  pub run : IsRun origin log
  pub whole : IsWhole origin.state origin.scripts log.journal.entries

-- or it has as many entries as a run may have, and is not whole after them
pub record IsRunToLimit (origin : Origin) (log : Log) : Type 0 where
  pub run : IsRun origin log
  pub full : length log.journal.entries ≡ history_limit
  pub unfinished : is_at_end (state_of log) ≡ false

abbrev pub IsUnfinished : {K : Type 0} → Origin → RunRefused K → Type 0
IsUnfinished origin (run_refused.TooLong log) = IsRunToLimit origin log
IsUnfinished origin run_refused.NoMemory = ⊤
