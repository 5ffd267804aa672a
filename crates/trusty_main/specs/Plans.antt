-- Which commands run without threads, and of which scene each makes which run.
use Rattle.std.specs.Prelude.{ℕ, ◌≤◌, List, [], Option, Some, None, Result, Ok, ⊤}
use Rattle.std.specs.Io.KnownBytes.{IsAtEnd}
use Rattle.command_line.specs.declared.command.Command.{Command}
use Rattle.command_line.specs.declared.command.Command.TheVariants as command
use Rattle.command_line.specs.Commands.{command_in}
use Rattle.history_check.specs.Inputs.{scene_part}
use Rattle.kernel_types.specs.Turns.{Outturn, run_by, replay_of, serial_turns}
use Rattle.kernel_values.specs.SceneLaw.{SceneValue}
use Rattle.report_text.specs.declared.form.Form.{Form}
use Rattle.scene_generator.specs.Generated.{generated}
use Rattle.scene_reader.specs.Whole.{scene_of}
use Rattle.script_lines.specs.declared.fault.SceneFault.{SceneFault}
use Rattle.trusty_main.specs.declared.plan.Order.{Order}
use Rattle.trusty_main.specs.declared.plan.Order.TheVariants as order
use Rattle.trusty_main.specs.declared.plan.Plan.{Plan}
use Rattle.trusty_main.specs.declared.plan.Purpose.{Purpose}
use Rattle.trusty_main.specs.declared.plan.Purpose.TheVariants as purpose
use Rattle.trusty_main.specs.declared.plan.Task.{Task}
use Rattle.trusty_main.specs.declared.plan.Task.TheVariants as task

-- ---- the commands

-- the command, where it takes no threads
abbrev pub plain_of : Option Command → Option Command
plain_of None = None
plain_of (Some (command.Serial form)) = Some (command.Serial form)
plain_of (Some (command.Replay form)) = Some (command.Replay form)
plain_of (Some (command.Run form)) = None
plain_of (Some (command.Gen seed count form)) = Some (command.Gen seed count form)
plain_of (Some command.Check) = Some command.Check

unfoldable pub plain_in : List (List ℕ) → Option Command
plain_in words = plain_of (command_in words)

abbrev pub command_by : Order → Form → Command
command_by order.Serial form = command.Serial form
command_by order.Replay form = command.Replay form

abbrev pub command_for : Purpose → Command
command_for (purpose.Run plan) = command_by plan.order plan.form
command_for purpose.Check = command.Check

abbrev pub as_command : Task → Command
as_command (task.Read purpose) = command_for purpose
as_command (task.Make making) = command.Gen making.seed making.count making.form

-- a scene that is made has at most 10,000 commands
abbrev pub MakesFew : Option Task → Type 0
MakesFew (Some (task.Make making)) = making.count ≤ 10000
MakesFew _ = ⊤

-- ---- the scenes

-- what a command reads of what the source has left: all of it, or nothing where its scene is made
abbrev pub input_of : Command → Option (List ℕ) → Option (List ℕ)
input_of (command.Serial form) left = left
input_of (command.Replay form) left = left
input_of (command.Run form) left = left
input_of (command.Gen seed count form) left = Some []
input_of command.Check left = left

-- and where that leaves the source
abbrev pub EndsInput : Command → Option (List ℕ) → Type 0
EndsInput (command.Serial form) left = IsAtEnd left
EndsInput (command.Replay form) left = IsAtEnd left
EndsInput (command.Run form) left = IsAtEnd left
EndsInput (command.Gen seed count form) left = ⊤
EndsInput command.Check left = IsAtEnd left

-- the scene that a command runs, or the first fault of its text
abbrev pub scene_by : Command → List ℕ → Result SceneValue SceneFault
scene_by (command.Serial form) input = scene_of input
scene_by (command.Replay form) input = scene_of input
scene_by (command.Run form) input = scene_of input
scene_by (command.Gen seed count form) input = Ok (generated seed count)
scene_by command.Check input = scene_of (scene_part input)

-- ---- the runs

-- the run that a command without threads makes, and its report
abbrev pub plan_of : Command → Option Plan
plan_of (command.Serial form) = Some (record { order = order.Serial; form = form })
plan_of (command.Replay form) = Some (record { order = order.Replay; form = form })
plan_of (command.Run form) = None
plan_of (command.Gen seed count form) = Some (record { order = order.Serial; form = form })
plan_of command.Check = None

-- the run of a scene in the serial order, or by its own list of turns
abbrev pub outturn_of : Order → SceneValue → Outturn
outturn_of order.Serial scene = run_by scene (serial_turns scene)
outturn_of order.Replay scene = replay_of scene
