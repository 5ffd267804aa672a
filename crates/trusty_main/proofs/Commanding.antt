-- What is told of a command: of those without threads, and of a run by threads.
use Rattle.std.proofs.Common.{◌≡◌, ◌≢◌, ◌⊎◌, ◌≤◌, ℕ, Bool, true, false, List, [], Option, Some, None, IfSome, Result, Ok, Err, refl, sym, ap, subst, ◌∙◌, length, inl, inr, IsTrue, ◌++◌, append-nil, le_refl, if◌then◌else◌, arith, length-append}
use Rattle.std.specs.Io.KnownBytes.{Appends, IsAtEnd, Keeps}
use Rattle.std.proofs.KnownBytes.{Keeps-refl}
use Rattle.command_line.specs.declared.command.Command.{Command}
use Rattle.command_line.specs.declared.command.Command.TheVariants as command
use Rattle.history_check.specs.Verdicts.{IsVerdict}
use Rattle.history_check.specs.declared.verdict.Verdict.TheVariants.{Yes, No}
use Rattle.kernel_types.specs.Facts.{is_at_end}
use Rattle.kernel_types.specs.History.{state_after}
use Rattle.kernel_types.specs.Opening.{opening}
use Rattle.kernel_types.specs.Turns.{history_limit}
use Rattle.kernel_log.specs.Logs.{Log}
use Rattle.kernel_values.specs.SceneLaw.{SceneValue}
use Rattle.outside_io.specs.Faults.{Rose}
use Rattle.outside_io.specs.Reading.{ReadsWhole, TakesMore}
use Rattle.outside_io.specs.Writing.{AppendsFront}
use Rattle.report_text.specs.Forms.{report}
use Rattle.report_text.specs.declared.form.Form.{Form}
use Rattle.runners.specs.Runs.{Carries, IsRunToEnd, IsRunToLimit, origin_of}
use Rattle.scene_generator.specs.Generated.{generated}
use Rattle.scene_reader.specs.Whole.{scene_of}
use Rattle.script_lines.specs.declared.fault.SceneFault.{SceneFault}
use Rattle.trusty_main.specs.Answers.{HasScene, IsEndless, IsReportOf, ReportsRun, Tells, TellsLong, TellsWhole}
use Rattle.trusty_main.specs.Commanded.{AppendsSomeOf, Does, DoneBy, EndlessBy, GetsDueOf, HasCommand, IsDue, IsDueOfCheck, IsDueOfScene, IsDueOfThreads, IsReported, OfInput, ReportedBy, TellsLongOf, TellsSome, ToldBy, ToldOf, Unread}
use Rattle.trusty_main.specs.Due.{Due, due_of_run}
use Rattle.trusty_main.specs.Plans.{EndsInput, command_by, command_for, input_of, outturn_of, plain_of, plan_of, scene_by}
use Rattle.trusty_main.specs.Texts.{fault_text, no_text, too_long_text, yes_text}
use Rattle.trusty_main.specs.declared.plan.Order.{Order}
use Rattle.trusty_main.specs.declared.plan.Order.TheVariants as order
use Rattle.trusty_main.specs.declared.plan.Plan.{Plan}
use Rattle.trusty_main.specs.declared.plan.Purpose.{Purpose}
use Rattle.trusty_main.specs.declared.plan.Purpose.TheVariants as purpose
use Rattle.trusty_main.specs.declared.status.Status.{Status}
use Rattle.trusty_main.specs.declared.status.Status.TheVariants as status
use Rattle.trusty_main.proofs.Headline.{is_history}
use Rattle.trusty_main.proofs.Reporting.{long_failed, long_told, long_unread, within_limit}

-- What is told of an input that was read whole.

told_by : (P : List ℕ → Type 0) (limit : ℕ) (left after : Option (List ℕ)) (input : List ℕ) → ReadsWhole limit left after input → P input → IfSome left P
told_by P limit None after input read holds = tt
told_by P limit (Some all) None input read holds = absurd read.taken
told_by P limit (Some all) (Some rest) input read holds =
    let same : input ≡ all = sym (read.taken ∙ (ap (λ r. input ++ r) read.at_end ∙ append-nil input)) in
    subst P same holds

abbrev pub Gets : Command → List ℕ → (old new : Option (List ℕ)) (before now : ℕ) → Status → Type 0
Gets asked input old new before now result = TellsSome (IsDue asked input) old new before now result

status_told : (due : Due) (old new : Option (List ℕ)) (before now : ℕ) (result : Status) → Tells due old new before now result → result ≢ status.WriteFault
    → result ≢ status.NoMemory → result ≡ due.status
status_told due old new before now status.Done tells written room = sym (tells.done refl).status_is
status_told due old new before now status.InputRefused tells written room = sym (tells.input_refused refl).status_is
status_told due old new before now status.TurnRefused tells written room = sym (tells.turn_refused refl).status_is
status_told due old new before now status.HistoryRefused tells written room = sym (tells.history_refused refl).status_is
status_told due old new before now status.RunTooLong tells written room = sym (tells.run_too_long refl).status_is
status_told due old new before now status.Usage tells written room = absurd (tells.no_usage refl)
status_told due old new before now status.ReadFault tells written room = absurd (tells.no_read_fault refl)
status_told due old new before now status.InputTooLong tells written room = absurd (tells.no_long_input refl)
status_told due old new before now status.WriteFault tells written room = absurd (written refl)
status_told due old new before now status.NoMemory tells written room = absurd (room refl)

module _ (asked : Command) (input : List ℕ) (old new : Option (List ℕ)) (before now : ℕ) (result : Status) where
  told_here : Gets asked input old new before now result → result ≡ status.Done → ToldOf asked input status.Done old new
  told_here (inl (due, is_due, tells)) is = record { due = due; is_due = is_due; told = tells.done is }
  told_here (inr untold) is = let bad : result ≡ status.NoMemory = untold.0 in absurd (cc)

  refused_here : Gets asked input old new before now result → result ≡ status.InputRefused → ToldOf asked input status.InputRefused old new
  refused_here (inl (due, is_due, tells)) is = record { due = due; is_due = is_due; told = tells.input_refused is }
  refused_here (inr untold) is = let bad : result ≡ status.NoMemory = untold.0 in absurd (cc)

  turn_here : Gets asked input old new before now result → result ≡ status.TurnRefused → ToldOf asked input status.TurnRefused old new
  turn_here (inl (due, is_due, tells)) is = record { due = due; is_due = is_due; told = tells.turn_refused is }
  turn_here (inr untold) is = let bad : result ≡ status.NoMemory = untold.0 in absurd (cc)

  history_here : Gets asked input old new before now result → result ≡ status.HistoryRefused → ToldOf asked input status.HistoryRefused old new
  history_here (inl (due, is_due, tells)) is = record { due = due; is_due = is_due; told = tells.history_refused is }
  history_here (inr untold) is = let bad : result ≡ status.NoMemory = untold.0 in absurd (cc)

  endless_here : Gets asked input old new before now result → result ≡ status.RunTooLong → ToldOf asked input status.RunTooLong old new
  endless_here (inl (due, is_due, tells)) is = record { due = due; is_due = is_due; told = tells.run_too_long is }
  endless_here (inr untold) is = let bad : result ≡ status.NoMemory = untold.0 in absurd (cc)

  fault_here : Gets asked input old new before now result → result ≡ status.WriteFault
      → Rose before now × ((due : Due) × IsDue asked input due × AppendsFront old new due.text)
  fault_here (inl (due, is_due, tells)) is = ((tells.write_fault is).0, (due, is_due, (tells.write_fault is).1))
  fault_here (inr untold) is = let bad : result ≡ status.NoMemory = untold.0 in absurd (cc)

  memory_here : Gets asked input old new before now result → result ≡ status.NoMemory
      → Keeps old new ⊎ ((due : Due) × IsDue asked input due × AppendsFront old new due.text)
  memory_here (inl (due, is_due, tells)) is = inr (due, is_due, tells.no_memory is)
  memory_here (inr untold) is = inl untold.1

  gets_here : Gets asked input old new before now result → result ≢ status.WriteFault → result ≢ status.NoMemory
      → (due : Due) × IsDue asked input due × (result ≡ due.status)
  gets_here (inl (due, is_due, tells)) written room = (due, is_due, status_told due old new before now result tells written room)
  gets_here (inr untold) written room = absurd (room untold.0)

  later_here : Gets asked input old new before now result → before ≤ now
  later_here (inl (due, is_due, tells)) = tells.later
  later_here (inr untold) = subst (λ n. before ≤ n) (sym untold.2) (le_refl before)

  no_usage_here : Gets asked input old new before now result → result ≢ status.Usage
  no_usage_here (inl (due, is_due, tells)) = tells.no_usage
  no_usage_here (inr untold) = λ is. let bad : result ≡ status.NoMemory = untold.0 in absurd (cc)

  pub no_fault_here : Gets asked input old new before now result → (result ≢ status.ReadFault) × (result ≢ status.InputTooLong)
  no_fault_here (inl (due, is_due, tells)) = (tells.no_read_fault, tells.no_long_input)
  no_fault_here (inr untold) = (λ is. let bad : result ≡ status.NoMemory = untold.0 in absurd (cc), λ is. let bad : result ≡ status.NoMemory = untold.0 in absurd (cc))

  -- what holds of the input holds of what the command reads
  module _ (limit : ℕ) (left after : Option (List ℕ)) (by : (P : List ℕ → Type 0) → P input → OfInput asked left P) (ends : EndsInput asked after)
      (long : TellsLongOf (Some asked) left limit result) where
    some_of : Keeps old new ⊎ ((due : Due) × IsDue asked input due × AppendsFront old new due.text) → AppendsSomeOf (Some asked) left old new
    some_of (inl kept) = inl kept
    some_of (inr front) = inr (by (λ input. (due : Due) × IsDue asked input due × AppendsFront old new due.text) front)

    pub does : Gets asked input old new before now result → Does asked limit left after old new before now result
    does gets = record {
      told = λ is. (by (λ input. ToldOf asked input status.Done old new) (told_here gets is), ends);
      input_refused = λ is. (by (λ input. ToldOf asked input status.InputRefused old new) (refused_here gets is), ends);
      turn_refused = λ is. (by (λ input. ToldOf asked input status.TurnRefused old new) (turn_here gets is), ends);
      history_refused = λ is. (by (λ input. ToldOf asked input status.HistoryRefused old new) (history_here gets is), ends);
      run_too_long = λ is. (by (λ input. ToldOf asked input status.RunTooLong old new) (endless_here gets is), ends);
      no_usage = no_usage_here gets;
      write_fault = λ is. ((fault_here gets is).0, some_of (inr (fault_here gets is).1));
      no_memory = λ is. some_of (memory_here gets is);
      complete = by (λ input. length input ≤ limit → result ≢ status.ReadFault → result ≢ status.WriteFault → result ≢ status.NoMemory
          → (due : Due) × IsDue asked input due × (result ≡ due.status)) (λ within no_fault written room. gets_here gets written room);
      past_limit = long;
      later = later_here gets;
    }

-- ---- of an input that was read whole

-- a command that reads
abbrev pub IsReader : Command → Type 0
IsReader asked = (left : Option (List ℕ)) → input_of asked left ≡ left

reads_by : (order : Order) (form : Form) → IsReader (command_by order form)
reads_by order.Serial form left = refl
reads_by order.Replay form left = refl

pub reads_for : (aim : Purpose) → IsReader (command_for aim)
reads_for (purpose.Run plan) left = reads_by plan.order plan.form left
reads_for purpose.Check left = refl

pub run_reads : (form : Form) → IsReader (command.Run form)
run_reads form left = refl

ends_for : (asked : Command) (after : Option (List ℕ)) → IsAtEnd after → EndsInput asked after
ends_for (command.Serial form) after ends = ends
ends_for (command.Replay form) after ends = ends
ends_for (command.Run form) after ends = ends
ends_for (command.Gen seed count form) after ends = tt
ends_for command.Check after ends = ends

pub of_read : (asked : Command) (limit : ℕ) (left after : Option (List ℕ)) (input : List ℕ) → IsReader asked → ReadsWhole limit left after input
    → (P : List ℕ → Type 0) → P input → OfInput asked left P
of_read asked limit left after input reader read P holds = subst (λ (o : Option (List ℕ)). IfSome o P) (sym (reader left)) (told_by P limit left after input read holds)

pub does_reading : (asked : Command) (limit : ℕ) (left after : Option (List ℕ)) (input : List ℕ) (old new : Option (List ℕ)) (before now : ℕ) (result : Status) → IsReader asked
    → ReadsWhole limit left after input → Gets asked input old new before now result → Does asked limit left after old new before now result
does_reading asked limit left after input old new before now result reader read gets =
    does asked input old new before now result limit left after (of_read asked limit left after input reader read) (ends_for asked after read.at_end)
    (subst (λ (o : Option (List ℕ)). TellsLong o limit result) (sym (reader left)) (within_limit limit left after input result read)) gets

-- and of one that was not: a read failed, the input is too long or memory was wanted

for_any : (o : Option (List ℕ)) (P : List ℕ → Type 0) → ((input : List ℕ) → P input) → IfSome o P
for_any None P all = tt
for_any (Some input) P all = all input

abbrev pub GetsHere : Command → ℕ → Status → List ℕ → Type 0
GetsHere asked limit result input = length input ≤ limit → result ≢ status.ReadFault → result ≢ status.WriteFault → result ≢ status.NoMemory
    → (due : Due) × IsDue asked input due × (result ≡ due.status)

over_limit : (asked : Command) (limit : ℕ) (left after : Option (List ℕ)) (result : Status) → TakesMore limit left after → IfSome left (GetsHere asked limit result)
over_limit asked limit None after result more = tt
over_limit asked limit (Some input) None result more = absurd more.taken
over_limit asked limit (Some input) (Some rest) result more = λ within no_fault written room.
    absurd (omega (arith, within, more.more, ap length more.taken, length-append more.bytes rest))

module _ (asked : Command) (limit : ℕ) (left after old : Option (List ℕ)) (before : ℕ) where
  pub does_failed : Does asked limit left after old old before before status.ReadFault
  does_failed = record {
    told = λ is. absurd (cc);
    input_refused = λ is. absurd (cc);
    turn_refused = λ is. absurd (cc);
    history_refused = λ is. absurd (cc);
    run_too_long = λ is. absurd (cc);
    no_usage = λ is. absurd (cc);
    write_fault = λ is. absurd (cc);
    no_memory = λ is. absurd (cc);
    complete = for_any (input_of asked left) (GetsHere asked limit status.ReadFault) (λ input within no_fault written room. absurd (no_fault refl));
    past_limit = long_failed (input_of asked left) limit;
    later = le_refl before;
  }

  pub does_unread : Does asked limit left after old old before before status.NoMemory
  does_unread = record {
    told = λ is. absurd (cc);
    input_refused = λ is. absurd (cc);
    turn_refused = λ is. absurd (cc);
    history_refused = λ is. absurd (cc);
    run_too_long = λ is. absurd (cc);
    no_usage = λ is. absurd (cc);
    write_fault = λ is. absurd (cc);
    no_memory = λ is. inl (Keeps-refl old);
    complete = for_any (input_of asked left) (GetsHere asked limit status.NoMemory) (λ input within no_fault written room. absurd (room refl));
    past_limit = long_unread (input_of asked left) limit;
    later = le_refl before;
  }

  pub does_long : IsReader asked → TakesMore limit left after → Does asked limit left after old old before before status.InputTooLong
  does_long reader more = record {
    told = λ is. absurd (cc);
    input_refused = λ is. absurd (cc);
    turn_refused = λ is. absurd (cc);
    history_refused = λ is. absurd (cc);
    run_too_long = λ is. absurd (cc);
    no_usage = λ is. absurd (cc);
    write_fault = λ is. absurd (cc);
    no_memory = λ is. absurd (cc);
    complete = subst (λ (o : Option (List ℕ)). IfSome o (GetsHere asked limit status.InputTooLong)) (sym (reader left)) (over_limit asked limit left after status.InputTooLong more);
    past_limit = long_told (input_of asked left) limit;
    later = le_refl before;
  }

-- what a plan's run came to

planned : (o : Option Plan) (P : Plan → List ℕ → Type 0) (asked : Command) (limit : ℕ) (left after : Option (List ℕ)) (input : List ℕ) → IsReader asked
    → ReadsWhole limit left after input → IfSome o (λ plan. P plan input) → IfSome o (λ plan. OfInput asked left (λ input. P plan input))
planned None P asked limit left after input reader read holds = tt
planned (Some plan) P asked limit left after input reader read holds = of_read asked limit left after input reader read (P plan) holds

pub reported_reading : (asked : Command) (limit : ℕ) (left after : Option (List ℕ)) (input : List ℕ) (old new : Option (List ℕ)) → IsReader asked → ReadsWhole limit left after input
    → IfSome (plan_of asked) (λ plan. HasScene (scene_by asked input) (λ scene. ReportsRun plan.order plan.form scene old new)) → ReportedBy asked left old new
reported_reading asked limit left after input old new reader read holds =
    planned (plan_of asked) (λ plan input. HasScene (scene_by asked input) (λ scene. ReportsRun plan.order plan.form scene old new)) asked limit left after input reader read holds

pub endless_reading : (asked : Command) (limit : ℕ) (left after : Option (List ℕ)) (input : List ℕ) → IsReader asked → ReadsWhole limit left after input
    → IfSome (plan_of asked) (λ plan. HasScene (scene_by asked input) (λ scene. IsEndless plan.order scene)) → EndlessBy asked left
endless_reading asked limit left after input reader read holds =
    planned (plan_of asked) (λ plan input. HasScene (scene_by asked input) (λ scene. IsEndless plan.order scene)) asked limit left after input reader read holds

pub done_reading : (form : Form) (limit : ℕ) (left after : Option (List ℕ)) (input : List ℕ) (old new : Option (List ℕ)) → ReadsWhole limit left after input
    → HasScene (scene_of input) (λ scene. IsReported form scene old new) → DoneBy (command.Run form) left old new
done_reading form limit left after input old new read holds =
    of_read (command.Run form) limit left after input (run_reads form) read (λ input. HasScene (scene_of input) (λ scene. IsReported form scene old new)) holds

-- ---- of a scene that was made

pub does_making : (seed count : ℕ) (form : Form) (limit : ℕ) (left after old new : Option (List ℕ)) (before now : ℕ) (result : Status)
    → Gets (command.Gen seed count form) [] old new before now result → Does (command.Gen seed count form) limit left after old new before now result
does_making seed count form limit left after old new before now result gets =
    does (command.Gen seed count form) [] old new before now result limit left after (λ P holds. holds) tt (λ over. absurd (omega (arith, over))) gets

pub made_told : (seed count : ℕ) (form : Form) (old new : Option (List ℕ)) (before now : ℕ) (result : Status)
    → Tells (due_of_run (generated seed count) form (outturn_of order.Serial (generated seed count))) old new before now result
    → TellsSome (IsDue (command.Gen seed count form) []) old new before now result
unfolding IsDue
made_told seed count form old new before now result told =
    inl (due_of_run (generated seed count) form (outturn_of order.Serial (generated seed count)), refl, told)

-- ---- of the command that words are

pub of_command : (asked : Option Command) (one : Command) (P : Command → Type 0) → Some one ≡ asked → P one → HasCommand asked P
of_command asked one P is holds = subst (λ (o : Option Command). HasCommand o P) is holds

pub if_command : (asked : Option Command) (one : Command) (P : Command → Type 0) → Some one ≡ asked → P one → IfSome asked P
if_command asked one P is holds = subst (λ (o : Option Command). IfSome o P) is holds

pub some_of_command : (asked : Option Command) (one : Command) (left old new : Option (List ℕ)) → Some one ≡ asked → AppendsSomeOf (Some one) left old new → AppendsSomeOf asked left old new
some_of_command asked one left old new is some = subst (λ (o : Option Command). AppendsSomeOf o left old new) is some

pub gets_of_command : (asked : Option Command) (one : Command) (left : Option (List ℕ)) (limit : ℕ) (result : Status) → Some one ≡ asked → GetsDueOf (Some one) left limit result → GetsDueOf asked left limit result
gets_of_command asked one left limit result is gets = subst (λ (o : Option Command). GetsDueOf o left limit result) is gets

pub long_of_command : (asked : Option Command) (one : Command) (left : Option (List ℕ)) (limit : ℕ) (result : Status) → Some one ≡ asked → TellsLongOf (Some one) left limit result → TellsLongOf asked left limit result
long_of_command asked one left limit result is long = subst (λ (o : Option Command). TellsLongOf o left limit result) is long

-- before the command is known, or where there is none

pub unknown_gets : (asked : Option Command) (left : Option (List ℕ)) (limit : ℕ) → GetsDueOf asked left limit status.NoMemory
unknown_gets None left limit = tt
unknown_gets (Some one) left limit = for_any (input_of one left) (GetsHere one limit status.NoMemory) (λ input within no_fault written room. absurd (room refl))

pub unknown_long : (asked : Option Command) (left : Option (List ℕ)) (limit : ℕ) → TellsLongOf asked left limit status.NoMemory
unknown_long None left limit = tt
unknown_long (Some one) left limit = long_unread (input_of one left) limit

untouched : {A : Type 0} (one : Command) (source : A) → Unread one source source
untouched (command.Serial form) source = tt
untouched (command.Replay form) source = tt
untouched (command.Run form) source = tt
untouched (command.Gen seed count form) source = refl
untouched command.Check source = tt

pub unknown_unread : {A : Type 0} (asked : Option Command) (source : A) → IfSome asked (λ one. Unread one source source)
unknown_unread None source = tt
unknown_unread (Some one) source = untouched one source

freely : {A : Type 0} (order : Order) (form : Form) (before after : A) → Unread (command_by order form) before after
freely order.Serial form before after = tt
freely order.Replay form before after = tt

pub reads_freely : {A : Type 0} (aim : Purpose) (before after : A) → Unread (command_for aim) before after
reads_freely (purpose.Run plan) before after = freely plan.order plan.form before after
reads_freely purpose.Check before after = tt

-- What is told of a scene that was read, or of its fault.

pub scene_told : (asked : Command) (input : List ℕ) (scene : SceneValue) (old new : Option (List ℕ)) (before now : ℕ) (result : Status)
    → scene_by asked input ≡ Ok scene → TellsSome (IsDueOfScene asked input (Ok scene)) old new before now result → TellsSome (IsDue asked input) old new before now result
unfolding IsDue
scene_told asked input scene old new before now result is told = subst (λ r. TellsSome (IsDueOfScene asked input r) old new before now result) (sym is) told

pub fault_told : (asked : Command) (input : List ℕ) (fault : SceneFault) (old new : Option (List ℕ)) (before now : ℕ) (result : Status)
    → scene_by asked input ≡ Err fault → Tells (record { status = status.InputRefused; text = fault_text fault }) old new before now result
    → TellsSome (IsDue asked input) old new before now result
unfolding IsDue
fault_told asked input fault old new before now result is told =
    subst (λ r. TellsSome (IsDueOfScene asked input r) old new before now result) (sym is) (inl (record { status = status.InputRefused; text = fault_text fault }, refl, told))

pub untold : (holds : Due → Type 0) (old : Option (List ℕ)) (before : ℕ) → TellsSome holds old old before before status.NoMemory
untold holds old before = inr (refl, Keeps-refl old, refl)

-- The run of a plan, as it was told.

module _ (input : List ℕ) (scene : SceneValue) (read : scene_of input ≡ Ok scene) (old new : Option (List ℕ)) (before now : ℕ) (result : Status) where
  pub plan_told : (order : Order) (form : Form) → Tells (due_of_run scene form (outturn_of order scene)) old new before now result
      → TellsSome (IsDue (command_by order form) input) old new before now result
  unfolding IsDue
  plan_told order.Serial form told = inl (due_of_run scene form (outturn_of order.Serial scene), rw read refl, told)
  plan_told order.Replay form told = inl (due_of_run scene form (outturn_of order.Replay scene), rw read refl, told)

pub plan_fault_told : (order : Order) (form : Form) (input : List ℕ) (fault : SceneFault) (old new : Option (List ℕ)) (before now : ℕ) (result : Status)
    → scene_of input ≡ Err fault → Tells (record { status = status.InputRefused; text = fault_text fault }) old new before now result
    → TellsSome (IsDue (command_by order form) input) old new before now result
plan_fault_told order.Serial form input fault old new before now result is told = fault_told (command.Serial form) input fault old new before now result is told
plan_fault_told order.Replay form input fault old new before now result is told = fault_told (command.Replay form) input fault old new before now result is told

-- what is due of a whole run is the report of its history

report_if : (ended : Bool) (d e : Due) (old new : Option (List ℕ)) → IsTrue ended → Appends old new (if ended then d else e).text → Appends old new d.text
report_if true d e old new is appended = appended
report_if false d e old new is appended = absurd (cc)

whole_reported : (plan : Plan) (scene : SceneValue) (old new : Option (List ℕ)) → TellsWhole (due_of_run scene plan.form (outturn_of plan.order scene)) status.Done old new
    → ReportsRun plan.order plan.form scene old new → IsReported plan.form scene old new
whole_reported plan scene old new told reports = record {
  entries = reports.whole.run.entries;
  history = reports.whole.history;
  appended = report_if (is_at_end reports.whole.run.state) _ _ old new
      (subst (λ s. IsTrue (is_at_end s)) (sym reports.whole.state_is) reports.whole.history.whole.ended)
      (subst (λ outturn. Appends old new (due_of_run scene plan.form outturn).text) reports.whole.run_is told.appended);
  report = reports.report;
}

-- what is due of a run by this order
abbrev pub IsPlanned : Command → Order → Form → Type 0
IsPlanned asked order form = (input : List ℕ) (scene : SceneValue) (due : Due) → IsDueOfScene asked input (Ok scene) due → due ≡ due_of_run scene form (outturn_of order scene)

module _ (asked : Command) (order : Order) (form : Form) (means : IsPlanned asked order form) (old new : Option (List ℕ)) where
  done_scene : (input : List ℕ) (read : Result SceneValue SceneFault) (due : Due) → IsDueOfScene asked input read due → TellsWhole due status.Done old new
      → HasScene read (λ scene. ReportsRun order form scene old new) → HasScene read (λ scene. IsReported form scene old new)
  done_scene input (Ok scene) due is told reports =
      whole_reported (record { order = order; form = form }) scene old new (subst (λ d. TellsWhole d status.Done old new) (means input scene due is) told) reports
  done_scene input (Err fault) due is told reports = absurd reports

  done_input : (o : Option (List ℕ)) → IfSome o (λ input. ToldOf asked input status.Done old new) → IfSome o (λ input. HasScene (scene_by asked input) (λ scene. ReportsRun order form scene old new))
      → IfSome o (λ input. HasScene (scene_by asked input) (λ scene. IsReported form scene old new))
  unfolding IsDue
  done_input None told reports = tt
  done_input (Some input) told reports = done_scene input (scene_by asked input) told.due told.is_due told.told reports

pub done_plain : (asked : Option Command) (left after : Option (List ℕ)) (old new : Option (List ℕ)) → HasCommand (plain_of asked) (λ one. ToldBy one left after status.Done old new)
    → HasCommand (plain_of asked) (λ one. ReportedBy one left old new) → HasCommand asked (λ one. DoneBy one left old new × EndsInput one after)
done_plain None left after old new told reports = absurd told
done_plain (Some (command.Serial form)) left after old new told reports =
    (done_input (command.Serial form) order.Serial form (λ input scene due is. is) old new left told.0 reports, told.1)
done_plain (Some (command.Replay form)) left after old new told reports =
    (done_input (command.Replay form) order.Replay form (λ input scene due is. is) old new left told.0 reports, told.1)
done_plain (Some (command.Run form)) left after old new told reports = absurd told
done_plain (Some (command.Gen seed count form)) left after old new told reports =
    (done_input (command.Gen seed count form) order.Serial form (λ input scene due is. is) old new (Some []) told.0 reports, told.1)
done_plain (Some command.Check) left after old new told reports = (tt, told.1)

-- What a check tells.

pub yes_told : (scene : SceneValue) (report : List ℕ) (count : ℕ) (old new : Option (List ℕ)) (before now : ℕ) (result : Status) → IsVerdict scene report (Yes count)
    → Tells (record { status = status.Done; text = yes_text count }) old new before now result → TellsSome (IsDueOfCheck scene report) old new before now result
yes_told scene report count old new before now result verdict told = inl (record { status = status.Done; text = yes_text count }, (Yes count, verdict, refl), told)

pub no_told : (scene : SceneValue) (report : List ℕ) (count : ℕ) (old new : Option (List ℕ)) (before now : ℕ) (result : Status) → IsVerdict scene report (No count)
    → Tells (record { status = status.HistoryRefused; text = no_text count }) old new before now result → TellsSome (IsDueOfCheck scene report) old new before now result
no_told scene report count old new before now result verdict told = inl (record { status = status.HistoryRefused; text = no_text count }, (No count, verdict, refl), told)

-- What one run by threads tells.

pub whole_told : (scene : SceneValue) (form : Form) (log : Log) (old new : Option (List ℕ)) (before now : ℕ) (result : Status) → IsRunToEnd (origin_of scene) log → Carries scene log
    → Tells (record { status = status.Done; text = report scene log.journal.entries form }) old new before now result
    → TellsSome (IsDueOfThreads scene form) old new before now result
whole_told scene form log old new before now result run carries told =
    let goes_on : is_at_end (state_after (opening scene) log.journal.entries) ≡ false → length log.journal.entries ≡ history_limit =
    λ unfinished. let ended : is_at_end (state_after (opening scene) log.journal.entries) ≡ true = run.whole.ended in absurd (cc) in
    inl (
      record { status = status.Done; text = report scene log.journal.entries form },
      (log.journal.entries, record { legal = run.run.legal; follows = run.run.follows; crosses = carries; long = goes_on }, rw run.whole.ended refl),
      told,
    )

pub limit_told : (scene : SceneValue) (form : Form) (log : Log) (old new : Option (List ℕ)) (before now : ℕ) (result : Status) → IsRunToLimit (origin_of scene) log → Carries scene log
    → Tells (record { status = status.RunTooLong; text = too_long_text }) old new before now result
    → TellsSome (IsDueOfThreads scene form) old new before now result
limit_told scene form log old new before now result run carries told =
    let goes_on : is_at_end (state_after (opening scene) log.journal.entries) ≡ false =
    subst (λ s. is_at_end (state_after s log.journal.entries) ≡ false) run.run.state_is run.unfinished in
    inl (
      record { status = status.RunTooLong; text = too_long_text },
      (log.journal.entries, record { legal = run.run.legal; follows = run.run.follows; crosses = carries; long = λ _. run.full }, rw goes_on refl),
      told,
    )

pub run_reported : (scene : SceneValue) (form : Form) (log : Log) (old new : Option (List ℕ)) (before now : ℕ) (result : Status) → IsRunToEnd (origin_of scene) log → Carries scene log
    → Tells (record { status = status.Done; text = report scene log.journal.entries form }) old new before now result
    → (result ≡ status.Done → IsReportOf form scene log.journal.entries old new) → result ≡ status.Done → IsReported form scene old new
run_reported scene form log old new before now result run carries tells reports done = record {
  entries = log.journal.entries;
  history = is_history scene log.journal.entries run.run.legal run.whole carries;
  appended = (tells.done done).appended;
  report = reports done;
}
