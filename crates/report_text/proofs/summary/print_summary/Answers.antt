use Rattle.report_text.specs.Forms.{history_words, answers_words}
use Rattle.report_text.specs.Lines.{lined}
use Rattle.report_text.proofs.Printed.{begun, went_on, went_to_end, stopped, one_more}
use Rattle.report_text.proofs.summary.print_summary.Goals as goal

pub returns-in_err-print_history_line : goal.returns-in_err-print_history_line
returns-in_err-print_history_line g c =
    stopped (lined (history_words c.args.entries.now)) (lined (answers_words c.args.entries.now)) (one_more (history_words c.args.entries.now) (answers_words c.args.entries.now))
    (begun _ _ _ _) c.in_err-print_history_line.ensures c.from_residual.ensures.1

pub returns : goal.returns
returns g c =
    went_to_end (went_on (lined (history_words c.args.entries.now)) (lined (answers_words c.args.entries.now)) (one_more (history_words c.args.entries.now) (answers_words c.args.entries.now))
    (begun _ _ _ _) c.in_ok-print_history_line.ensures) c.print_answers_line.ensures
