-- What is due for a command and an input. For a run by threads it is the report of some history, whatever turns the threads
-- take; for the other commands it is one text: the report of one run, or the verdict on a report.
use Rattle.std.specs.Prelude.{◌≡◌, ◌⊎◌, ◌≤◌, ◌≢◌, ℕ, List, false, length, Option, Some, None, IfSome, Result, Ok, Err, ⊤, if◌then◌else◌}
use Rattle.std.specs.Io.KnownBytes.{Appends, Keeps}
use Rattle.command_line.specs.declared.command.Command.{Command}
use Rattle.command_line.specs.declared.command.Command.TheVariants as command
use Rattle.history_check.specs.Inputs.{report_part}
use Rattle.history_check.specs.Verdicts.{IsVerdict}
use Rattle.history_check.specs.declared.verdict.Verdict.{Verdict}
use Rattle.kernel_types.specs.Facts.{is_at_end}
use Rattle.kernel_types.specs.History.{Legal, state_after}
use Rattle.kernel_types.specs.Opening.{opening}
use Rattle.kernel_types.specs.Turns.{history_limit}
use Rattle.kernel_types.specs.Whole.{FollowsScripts}
use Rattle.kernel_values.specs.SceneLaw.{SceneValue, scripts_of}
use Rattle.kernel_values.specs.declared.entry.Entry.{Entry}
use Rattle.outside_io.specs.Faults.{Rose}
use Rattle.outside_io.specs.Writing.{AppendsFront}
use Rattle.report_text.specs.Forms.{report}
use Rattle.report_text.specs.declared.form.Form.{Form}
use Rattle.script_lines.specs.declared.fault.SceneFault.{SceneFault}
use Rattle.trusty_main.specs.Answers.{Crosses, HasScene, IsEndless, IsReportOf, IsSequentialHistory, ReportsRun, Tells, TellsLong, TellsWhole}
use Rattle.trusty_main.specs.Due.{Due, due_of_run, due_of_verdict}
use Rattle.trusty_main.specs.Plans.{EndsInput, input_of, outturn_of, plan_of, scene_by}
use Rattle.trusty_main.specs.Texts.{fault_text, too_long_text, usage_text}
use Rattle.trusty_main.specs.declared.plan.Order.TheVariants as order
use Rattle.trusty_main.specs.declared.status.Status.{Status}
use Rattle.trusty_main.specs.declared.status.Status.TheVariants as status

-- A history by whatever turns: it is legal, each actor's calls are its script's, and it is at its end or as long as a
-- run may be.
pub record IsRunByThreads (scene : SceneValue) (entries : List Entry) : Type 0 where
  pub legal : Legal (opening scene) entries
  pub follows : FollowsScripts (scripts_of scene) entries
  pub crosses : Crosses scene entries
  pub long : is_at_end (state_after (opening scene) entries) ≡ false → length entries ≡ history_limit

abbrev pub due_of_history : SceneValue → Form → List Entry → Due
due_of_history scene form entries = (if is_at_end (state_after (opening scene) entries) then record { status = status.Done; text = report scene entries form }
    else record { status = status.RunTooLong; text = too_long_text })

abbrev pub IsDueOfThreads : SceneValue → Form → Due → Type 0
IsDueOfThreads scene form due = (entries : List Entry) × IsRunByThreads scene entries × (due ≡ due_of_history scene form entries)

-- the verdict on a report of the scene
abbrev pub IsDueOfCheck : SceneValue → List ℕ → Due → Type 0
IsDueOfCheck scene report due = (verdict : Verdict) × IsVerdict scene report verdict × (due ≡ due_of_verdict verdict)

-- by the scene that was read or made, or the first fault of its text
abbrev pub IsDueOfScene : Command → List ℕ → Result SceneValue SceneFault → Due → Type 0
IsDueOfScene command input (Err fault) due = due ≡ record { status = status.InputRefused; text = fault_text fault }
IsDueOfScene (command.Serial form) input (Ok scene) due = due ≡ due_of_run scene form (outturn_of order.Serial scene)
IsDueOfScene (command.Replay form) input (Ok scene) due = due ≡ due_of_run scene form (outturn_of order.Replay scene)
IsDueOfScene (command.Run form) input (Ok scene) due = IsDueOfThreads scene form due
IsDueOfScene (command.Gen seed count form) input (Ok scene) due = due ≡ due_of_run scene form (outturn_of order.Serial scene)
IsDueOfScene command.Check input (Ok scene) due = IsDueOfCheck scene (report_part input) due

unfoldable pub IsDue : Command → List ℕ → Due → Type 0
IsDue command input due = IsDueOfScene command input (scene_by command input) due

-- something that is due was told, with this status
pub record ToldOf (command : Command) (input : List ℕ) (result : Status) (old new : Option (List ℕ)) : Type 0 where
  pub due : Due
  pub is_due : IsDue command input due
  pub told : TellsWhole due result old new

-- there is a command, and this holds of it
abbrev pub HasCommand : Option Command → (Command → Type 0) → Type 0
HasCommand None holds = ⊥
HasCommand (Some command) holds = holds command

-- this holds of the input that a command reads, where the source tells it
abbrev pub OfInput : Command → Option (List ℕ) → (List ℕ → Type 0) → Type 0
OfInput command left holds = IfSome (input_of command left) holds

-- it has a scene, and this holds of it
abbrev pub OfScene : Command → Option (List ℕ) → (SceneValue → Type 0) → Type 0
OfScene command left holds = OfInput command left (λ input. HasScene (scene_by command input) holds)

-- what is due of the input was told, and the input was read to its end
abbrev pub ToldBy : Command → (left after : Option (List ℕ)) → Status → (old new : Option (List ℕ)) → Type 0
ToldBy command left after result old new = OfInput command left (λ input. ToldOf command input result old new) × EndsInput command after

-- where a scene is made, nothing is read
abbrev pub Unread : {A : Type 0} → Command → (before after : A) → Type 0
Unread (command.Gen seed count form) before after = after ≡ before
Unread _ before after = ⊤

-- a front of something that is due was appended, but not all of it

abbrev pub AppendsFrontOf : Option Command → Option (List ℕ) → (old new : Option (List ℕ)) → Type 0
AppendsFrontOf None left old new = AppendsFront old new usage_text
AppendsFrontOf (Some command) left old new = OfInput command left (λ input. (due : Due) × IsDue command input due × AppendsFront old new due.text)

-- or nothing was
abbrev pub AppendsSomeOf : Option Command → Option (List ℕ) → (old new : Option (List ℕ)) → Type 0
AppendsSomeOf command left old new = Keeps old new ⊎ AppendsFrontOf command left old new

-- a command whose input is within the limit gets what is due, unless a read or a write failed or memory was wanted
abbrev pub GetsDueOf : Option Command → Option (List ℕ) → ℕ → Status → Type 0
GetsDueOf None left limit result = ⊤
GetsDueOf (Some command) left limit result = OfInput command left (λ input. length input ≤ limit → result ≢ status.ReadFault → result ≢ status.WriteFault → result ≢ status.NoMemory
    → (due : Due) × IsDue command input due × (result ≡ due.status))

-- a command whose input has more bytes than the limit is told so
abbrev pub TellsLongOf : Option Command → Option (List ℕ) → ℕ → Status → Type 0
TellsLongOf None left limit result = ⊤
TellsLongOf (Some command) left limit result = TellsLong (input_of command left) limit result

-- the form of the report that a command writes, where it writes one
abbrev pub form_of : Command → Option Form
form_of (command.Serial form) = Some form
form_of (command.Replay form) = Some form
form_of (command.Run form) = Some form
form_of (command.Gen seed count form) = Some form
form_of command.Check = None

-- The bytes that were written are the report of such a history, with the counts after each of its steps.
pub record IsReported (form : Form) (scene : SceneValue) (old new : Option (List ℕ)) : Type 0 where
  pub entries : List Entry
  pub history : IsSequentialHistory scene entries
  pub appended : Appends old new (report scene entries form)
  pub report : IsReportOf form scene entries old new

-- what was done by a command that writes a report
abbrev pub DoneBy : Command → Option (List ℕ) → (old new : Option (List ℕ)) → Type 0
DoneBy command left old new = IfSome (form_of command) (λ form. OfScene command left (λ scene. IsReported form scene old new))

-- by one without threads it is that of the run of its plan
abbrev pub ReportedBy : Command → Option (List ℕ) → (old new : Option (List ℕ)) → Type 0
ReportedBy command left old new = IfSome (plan_of command) (λ plan. OfScene command left (λ scene. ReportsRun plan.order plan.form scene old new))

abbrev pub EndlessBy : Command → Option (List ℕ) → Type 0
EndlessBy command left = IfSome (plan_of command) (λ plan. OfScene command left (λ scene. IsEndless plan.order scene))

-- What came of a command, by the status, but for a failed read and an input that is too long.
pub record Does (asked : Command) (limit : ℕ) (left after : Option (List ℕ)) (old new : Option (List ℕ)) (before now : ℕ) (result : Status) : Type 0 where
  pub told : result ≡ status.Done → ToldBy asked left after status.Done old new
  pub input_refused : result ≡ status.InputRefused → ToldBy asked left after status.InputRefused old new
  pub turn_refused : result ≡ status.TurnRefused → ToldBy asked left after status.TurnRefused old new
  pub history_refused : result ≡ status.HistoryRefused → ToldBy asked left after status.HistoryRefused old new
  pub run_too_long : result ≡ status.RunTooLong → ToldBy asked left after status.RunTooLong old new
  pub no_usage : result ≢ status.Usage
  pub write_fault : result ≡ status.WriteFault → Rose before now × AppendsSomeOf (Some asked) left old new
  pub no_memory : result ≡ status.NoMemory → AppendsSomeOf (Some asked) left old new
  pub complete : GetsDueOf (Some asked) left limit result
  pub past_limit : TellsLongOf (Some asked) left limit result
  pub later : before ≤ now

-- something that is due was told, as far as it went; or memory was wanted before
abbrev pub TellsSome : (Due → Type 0) → (old new : Option (List ℕ)) (before now : ℕ) → Status → Type 0
TellsSome holds old new before now result = ((due : Due) × holds due × Tells due old new before now result) ⊎ ((result ≡ status.NoMemory) × Keeps old new × (now ≡ before))
