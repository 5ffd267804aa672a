-- What every history keeps after each of its steps.
use Rattle.std.proofs.Common.{◌≡◌, ℕ, List, ◌++◌, Option, subst, ap}
use Rattle.kernel_values.specs.SceneLaw.{SceneValue}
use Rattle.kernel_values.specs.declared.entry.Entry.{Entry}
use Rattle.kernel_types.specs.History.{Legal, state_after}
use Rattle.kernel_types.specs.Opening.{opening}
use Rattle.kernel_types.specs.Turns.{ran, serial_turns}
use Rattle.kernel_types.specs.Whole.{IsWholeHistory}
use Rattle.kernel_log.specs.Logs.{Log}
use Rattle.report_text.specs.declared.form.Form.{Form}
use Rattle.runners.specs.Runs.{Carries, IsReplay, IsWholeRun, run_logged}
use Rattle.app_laws.specs.Ended.{EndedNameNone}
use Rattle.app_laws.proofs.Histories.{histories_none}
use Rattle.object_laws.proofs.Living.{none_outlives}
use Rattle.trusty_main.specs.Answers.{Crosses, IsNamedWhileThere, IsReportOf, IsSequentialHistory, ReportsRun}
use Rattle.trusty_main.specs.Plans.{outturn_of}
use Rattle.trusty_main.specs.declared.plan.Order.{Order}
use Rattle.trusty_main.specs.declared.plan.Order.TheVariants as order

named_after : (scene : SceneValue) (entries : List Entry) → Legal (opening scene) entries → (before after : List Entry) → entries ≡ before ++ after
    → IsNamedWhileThere (state_after (opening scene) before)
named_after scene entries legal before after is object count there =
    none_outlives scene before after object count (subst (λ (es : List Entry). Legal (opening scene) es) is legal) there

ended_after : (scene : SceneValue) (entries : List Entry) → Legal (opening scene) entries → (before after : List Entry) → entries ≡ before ++ after
    → EndedNameNone (state_after (opening scene) before)
ended_after scene entries legal before after is = histories_none scene before after (subst (λ (es : List Entry). Legal (opening scene) es) is legal)

pub is_history : (scene : SceneValue) (entries : List Entry) → Legal (opening scene) entries → IsWholeHistory scene entries → Crosses scene entries
    → IsSequentialHistory scene entries
is_history scene entries legal whole crosses = record {
  legal = legal;
  whole = whole;
  named = named_after scene entries legal;
  ended = ended_after scene entries legal;
  crosses = crosses;
}

-- The run of a plan whose report was written.

reports_run : (order : Order) (form : Form) (scene : SceneValue) (log : Log) (old new : Option (List ℕ)) → outturn_of order scene ≡ ran (run_logged log)
    → log.origin.state ≡ opening scene → Legal (opening scene) log.journal.entries → IsWholeHistory scene log.journal.entries → Crosses scene log.journal.entries
    → IsReportOf form scene log.journal.entries old new → ReportsRun order form scene old new
reports_run order form scene log old new is begun legal whole crosses report = record {
  whole = record {
    run = run_logged log;
    run_is = is;
    state_is = ap (λ s. state_after s log.journal.entries) begun;
    history = is_history scene log.journal.entries legal whole crosses;
  };
  report = report;
}

pub serial_reported : (form : Form) (scene : SceneValue) (log : Log) (old new : Option (List ℕ)) → IsWholeRun scene (serial_turns scene) log → Carries scene log
    → IsReportOf form scene log.journal.entries old new → ReportsRun order.Serial form scene old new
serial_reported form scene log old new run carries report =
    reports_run order.Serial form scene log old new run.run.run_is run.run.opening_is run.run.legal run.whole carries report

pub replay_reported : (form : Form) (scene : SceneValue) (log : Log) (old new : Option (List ℕ)) → IsReplay scene log → Carries scene log
    → IsReportOf form scene log.journal.entries old new → ReportsRun order.Replay form scene old new
replay_reported form scene log old new replay carries report =
    reports_run order.Replay form scene log old new replay.replay_is replay.whole.run.opening_is replay.whole.run.legal replay.whole.whole carries report
