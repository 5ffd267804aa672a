-- What each status of the program says.
use Rattle.std.specs.Prelude.{◌≡◌, ◌≢◌, ◌≤◌, ◌<◌, ◌+◌, ◌⊎◌, ℕ, List, ◌++◌, false, length, take, slice_get, Option, Some, None, Result, Ok, Err, IsTrue, ⊤}
use Rattle.std.specs.Io.KnownBytes.{Appends}
use Rattle.std.specs.List.{list_all, sum_by}
use Rattle.app_laws.specs.Ended.{EndedNameNone}
use Rattle.kernel_types.specs.Carried.{IsCarried, is_honest}
use Rattle.kernel_types.specs.History.{Legal, state_after}
use Rattle.kernel_types.specs.Names.{naming, names_of}
use Rattle.kernel_types.specs.Opening.{opening}
use Rattle.kernel_types.specs.Turns.{Run, ran, refused, history_limit}
use Rattle.kernel_types.specs.Whole.{IsWholeHistory, FollowsScripts}
use Rattle.kernel_types.specs.Facts.{is_at_end, names_at}
use Rattle.kernel_values.specs.SceneLaw.{SceneValue, scripts_of}
use Rattle.kernel_values.specs.declared.entry.EndFacts.{EndFacts}
use Rattle.kernel_values.specs.declared.entry.Entry.{Entry}
use Rattle.kernel_values.specs.declared.state.State.{State}
use Rattle.outside_io.specs.Faults.{Rose}
use Rattle.outside_io.specs.Writing.{AppendsFront}
use Rattle.report_text.specs.Forms.{report, report_told}
use Rattle.report_text.specs.Histories.{TellsOnly}
use Rattle.report_text.specs.declared.form.Form.{Form}
use Rattle.report_text.specs.declared.form.Form.TheVariants.{History}
use Rattle.script_lines.specs.declared.fault.SceneFault.{SceneFault}
use Rattle.trusty_main.specs.Due.{Due}
use Rattle.trusty_main.specs.Plans.{outturn_of}
use Rattle.trusty_main.specs.declared.plan.Order.{Order}
use Rattle.trusty_main.specs.declared.status.Status.{Status}
use Rattle.trusty_main.specs.declared.status.Status.TheVariants as status

-- what was told of a state: how many objects are there, and how many entries name them, counted for each and summed up
pub record Counts (s : State) (told : EndFacts) : Type 0 where
  pub objects : told.objects ≡ length s.core.objects
  pub names : told.names ≡ sum_by (λ object. names_of (naming s.core) object.id) s.core.objects

-- so after each entry of a history of the scene
pub record CountsAlong (scene : SceneValue) (entries : List Entry) (facts : List EndFacts) : Type 0 where
  pub each : length facts ≡ length entries
  pub counted : (k : ℕ) (told : EndFacts) → slice_get facts k ≡ Some told → Counts (state_after (opening scene) (take (k + 1) entries)) told

-- no object outlives its names: each that is there is named by some entry
abbrev pub IsNamedWhileThere : State → Type 0
IsNamedWhileThere s = (object count : ℕ) → names_at s object ≡ Some count → 0 < count

-- Where clients write memory and rings through the driver alone, what came over the bridge is what was sent, byte for byte and
-- in order, as far as it came; and the device is not broken.
abbrev pub Crosses : SceneValue → List Entry → Type 0
Crosses scene entries = IsTrue (list_all is_honest scene.clients) → IsCarried (opening scene) entries

-- A legal history of the sequential kernel from the scene's opening state, in which each actor's calls are its script's, each
-- once, in its order, to its end; and after every step of it each object that is there is named, and an ended application names
-- none. Frames cross in order.
pub record IsSequentialHistory (scene : SceneValue) (entries : List Entry) : Type 0 where
  pub legal : Legal (opening scene) entries
  pub whole : IsWholeHistory scene entries
  pub named : (before after : List Entry) → entries ≡ before ++ after → IsNamedWhileThere (state_after (opening scene) before)
  pub ended : (before after : List Entry) → entries ≡ before ++ after → EndedNameNone (state_after (opening scene) before)
  pub crosses : Crosses scene entries

-- The report of a history was written: by the facts that the kernel gave after each entry, which its journal keeps, and at the end.
-- They are the counts of the states there. In the history form the report is that of no other history.
pub record IsReportOf (form : Form) (scene : SceneValue) (entries : List Entry) (old new : Option (List ℕ)) : Type 0 where
  pub facts : List EndFacts
  pub last : EndFacts
  pub counted : CountsAlong scene entries facts
  pub last_counted : Counts (state_after (opening scene) entries) last
  pub written : Appends old new (report_told scene entries facts last form)
  pub fixes : form ≡ History → TellsOnly scene entries (report scene entries History)

-- the run of a plan is one such history
pub record IsRunOfPlan (order : Order) (scene : SceneValue) : Type 0 where
  pub run : Run
  pub run_is : outturn_of order scene ≡ ran run
  pub state_is : run.state ≡ state_after (opening scene) run.entries
  pub history : IsSequentialHistory scene run.entries

-- and its report was written
pub record ReportsRun (order : Order) (form : Form) (scene : SceneValue) (old new : Option (List ℕ)) : Type 0 where
  pub whole : IsRunOfPlan order scene
  pub report : IsReportOf form scene whole.run.entries old new

-- The run has as many entries as a run may have, and is not at its end.
pub record IsEndless (order : Order) (scene : SceneValue) : Type 0 where
  pub run : Run
  pub run_is : outturn_of order scene ≡ ran run
  pub legal : Legal (opening scene) run.entries
  pub state_is : run.state ≡ state_after (opening scene) run.entries
  pub follows : FollowsScripts (scripts_of scene) run.entries
  pub crosses : Crosses scene run.entries
  pub long : length run.entries ≡ history_limit
  pub goes_on : is_at_end run.state ≡ false

-- the turn with this number is the first that is not lawful, or the first after a list that ends too early
pub record IsRefused (order : Order) (scene : SceneValue) : Type 0 where
  pub turn : ℕ
  pub refused_is : outturn_of order scene ≡ refused turn

-- the status is the one that is due, and the whole text was appended
pub record TellsWhole (due : Due) (told : Status) (old new : Option (List ℕ)) : Type 0 where
  pub status_is : due.status ≡ told
  pub appended : Appends old new due.text

-- What came of telling what is due. Where a write failed or memory was wanted, a front of it was appended, but not all.
pub record Tells (due : Due) (old new : Option (List ℕ)) (before now : ℕ) (result : Status) : Type 0 where
  pub done : result ≡ status.Done → TellsWhole due status.Done old new
  pub input_refused : result ≡ status.InputRefused → TellsWhole due status.InputRefused old new
  pub turn_refused : result ≡ status.TurnRefused → TellsWhole due status.TurnRefused old new
  pub history_refused : result ≡ status.HistoryRefused → TellsWhole due status.HistoryRefused old new
  pub run_too_long : result ≡ status.RunTooLong → TellsWhole due status.RunTooLong old new
  pub write_fault : result ≡ status.WriteFault → Rose before now × AppendsFront old new due.text
  pub no_memory : result ≡ status.NoMemory → AppendsFront old new due.text
  pub no_usage : result ≢ status.Usage
  pub no_read_fault : result ≢ status.ReadFault
  pub no_long_input : result ≢ status.InputTooLong
  pub later : before ≤ now
  pub kept : result ≢ status.WriteFault → now ≡ before

-- the status of the process
abbrev pub exit_status : Status → ℕ
exit_status status.Done = 0
exit_status status.InputRefused = 1
exit_status status.Usage = 2
exit_status status.ReadFault = 3
exit_status status.WriteFault = 4
exit_status status.NoMemory = 5
exit_status status.InputTooLong = 6
exit_status status.TurnRefused = 7
exit_status status.HistoryRefused = 8
exit_status status.RunTooLong = 9

-- there is a scene, and this holds of it
abbrev pub HasScene : Result SceneValue SceneFault → (SceneValue → Type 0) → Type 0
HasScene (Err fault) holds = ⊥
HasScene (Ok scene) holds = holds scene

-- a command whose input has more bytes than the limit is told so, unless a read failed or memory was wanted
abbrev pub TellsLong : Option (List ℕ) → ℕ → Status → Type 0
TellsLong None limit result = ⊤
TellsLong (Some input) limit result = limit < length input → (result ≡ status.InputTooLong) ⊎ (result ≡ status.ReadFault) ⊎ (result ≡ status.NoMemory)
