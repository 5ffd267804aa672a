-- What is due: what is written, and the status that goes with it, where every read and write succeeds and memory is there.
use Rattle.std.specs.Prelude.{ℕ, List, if◌then◌else◌}
use Rattle.history_check.specs.declared.verdict.Verdict.{Verdict}
use Rattle.history_check.specs.declared.verdict.Verdict.TheVariants.{Yes, No}
use Rattle.kernel_types.specs.Facts.{is_at_end}
use Rattle.kernel_types.specs.Turns.{Outturn, ran, refused}
use Rattle.kernel_values.specs.SceneLaw.{SceneValue}
use Rattle.report_text.specs.Forms.{report}
use Rattle.report_text.specs.declared.form.Form.{Form}
use Rattle.trusty_main.specs.Texts.{turn_text, too_long_text, yes_text, no_text}
use Rattle.trusty_main.specs.declared.status.Status.{Status}
use Rattle.trusty_main.specs.declared.status.Status.TheVariants as status

pub record Due : Type 0 where
  pub status : Status
  pub text : List ℕ

-- the report of a run that came to its end
abbrev pub due_of_run : SceneValue → Form → Outturn → Due
due_of_run scene form (ran run) = (if is_at_end run.state then record { status = status.Done; text = report scene run.entries form }
    else record { status = status.RunTooLong; text = too_long_text })
due_of_run scene form (refused k) = record { status = status.TurnRefused; text = turn_text k }

-- the verdict on a report
abbrev pub due_of_verdict : Verdict → Due
due_of_verdict (Yes count) = record { status = status.Done; text = yes_text count }
due_of_verdict (No count) = record { status = status.HistoryRefused; text = no_text count }
