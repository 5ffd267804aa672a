-- Where nothing was written, that is a front of what is due and not all of it: no text is empty.
use Rattle.std.proofs.Common.{◌<◌, ℕ, Bool, true, false, cond, List, [], ◌∷◌, ◌++◌, length, drop, Option, refl, arith, length-append}
use Rattle.std.specs.Prelude.{codes}
use Rattle.std.proofs.KnownBytes.{Appends-nil}
use Rattle.kernel_log.specs.Logs.{facts_along}
use Rattle.kernel_types.specs.Facts.{end_facts, is_at_end}
use Rattle.kernel_types.specs.History.{state_after}
use Rattle.kernel_types.specs.Opening.{opening}
use Rattle.kernel_types.specs.Turns.{Outturn, ran, refused}
use Rattle.kernel_values.specs.SceneLaw.{SceneValue}
use Rattle.kernel_values.specs.declared.entry.Entry.{Entry}
use Rattle.outside_io.specs.Writing.{AppendsFront}
use Rattle.report_text.specs.Forms.{body_lines, end_words, report, report_told}
use Rattle.report_text.specs.Lines.{line_end, lined, spelled, text_of}
use Rattle.report_text.specs.Names.{actor_names}
use Rattle.report_text.specs.declared.form.Form.{Form}
use Rattle.script_lines.specs.declared.fault.SceneFault.{SceneFault}
use Rattle.trusty_main.specs.Answers.{Tells}
use Rattle.trusty_main.specs.Due.{Due, due_of_run}
use Rattle.trusty_main.specs.Texts.{fault_text, no_text, too_long_text, turn_text, yes_text}
use Rattle.trusty_main.specs.declared.status.Status.TheVariants as status

some_line : (words : List (List ℕ)) → 0 < length (lined words)
unfolding lined
some_line words = omega (arith, length-append (drop 1 (spelled words)) (line_end ∷ []))

some_lines : (lines : List (List (List ℕ))) (last : List (List ℕ)) → 0 < length (text_of (lines ++ last ∷ []))
some_lines [] last = omega (arith, some_line last, length-append (lined last) [])
some_lines (line ∷ lines) last = omega (arith, some_line line, length-append (lined line) (text_of (lines ++ last ∷ [])))

some_report : (scene : SceneValue) (entries : List Entry) (form : Form) → 0 < length (report scene entries form)
unfolding report report_told
some_report scene entries form =
    some_lines (body_lines (actor_names scene) entries (facts_along (opening scene) entries) form) (end_words (end_facts (state_after (opening scene) entries)))

front_some : (front rest : List ℕ) → 0 < length front → 0 < length (front ++ rest)
front_some front rest some = omega (arith, length-append front rest, some)

some_fault : (fault : SceneFault) → 0 < length (fault_text fault)
unfolding fault_text
some_fault fault = front_some (codes "refused line ") _ (omega arith)

some_turn : (k : ℕ) → 0 < length (turn_text k)
unfolding turn_text
some_turn k = front_some (codes "turn ") _ (omega arith)

some_yes : (count : ℕ) → 0 < length (yes_text count)
unfolding yes_text
some_yes count = front_some (codes "yes ") _ (omega arith)

some_no : (count : ℕ) → 0 < length (no_text count)
unfolding no_text
some_no count = front_some (codes "no entry ") _ (omega arith)

some_long : 0 < length too_long_text
unfolding too_long_text
some_long = omega arith

either_some : (test : Bool) (one other : Due) → 0 < length one.text → 0 < length other.text → 0 < length (cond test one other).text
either_some true one other p q = p
either_some false one other p q = q

some_run : (scene : SceneValue) (form : Form) (outturn : Outturn) → 0 < length (due_of_run scene form outturn).text
some_run scene form (ran run) = either_some (is_at_end run.state) (record { status = status.Done; text = report scene run.entries form }) (record { status = status.RunTooLong; text = too_long_text })
    (some_report scene run.entries form) some_long
some_run scene form (refused k) = some_turn k

none_written : (old : Option (List ℕ)) (text : List ℕ) → 0 < length text → AppendsFront old old text
none_written old text some = record { front = []; rest = text; parts = refl; unfinished = some; appended = Appends-nil old }

-- memory was wanted before anything was written
untold_text : (due : Due) (old : Option (List ℕ)) (before : ℕ) → 0 < length due.text → Tells due old old before before status.NoMemory
untold_text due old before some = record {
  done = λ is. absurd (cc);
  input_refused = λ is. absurd (cc);
  turn_refused = λ is. absurd (cc);
  history_refused = λ is. absurd (cc);
  run_too_long = λ is. absurd (cc);
  write_fault = λ is. absurd (cc);
  no_memory = λ is. none_written old due.text some;
  no_usage = λ is. absurd (cc);
  no_read_fault = λ is. absurd (cc);
  no_long_input = λ is. absurd (cc);
  later = omega arith;
  kept = λ is. refl;
}

pub untold_fault : (fault : SceneFault) (old : Option (List ℕ)) (before : ℕ) → Tells (record { status = status.InputRefused; text = fault_text fault }) old old before before status.NoMemory
untold_fault fault old before = untold_text (record { status = status.InputRefused; text = fault_text fault }) old before (some_fault fault)

pub untold_turn : (k : ℕ) (old : Option (List ℕ)) (before : ℕ) → Tells (record { status = status.TurnRefused; text = turn_text k }) old old before before status.NoMemory
untold_turn k old before = untold_text (record { status = status.TurnRefused; text = turn_text k }) old before (some_turn k)

pub untold_yes : (count : ℕ) (old : Option (List ℕ)) (before : ℕ) → Tells (record { status = status.Done; text = yes_text count }) old old before before status.NoMemory
untold_yes count old before = untold_text (record { status = status.Done; text = yes_text count }) old before (some_yes count)

pub untold_no : (count : ℕ) (old : Option (List ℕ)) (before : ℕ) → Tells (record { status = status.HistoryRefused; text = no_text count }) old old before before status.NoMemory
untold_no count old before = untold_text (record { status = status.HistoryRefused; text = no_text count }) old before (some_no count)

pub untold_run : (scene : SceneValue) (form : Form) (outturn : Outturn) (old : Option (List ℕ)) (before : ℕ) → Tells (due_of_run scene form outturn) old old before before status.NoMemory
untold_run scene form outturn old before = untold_text (due_of_run scene form outturn) old before (some_run scene form outturn)
