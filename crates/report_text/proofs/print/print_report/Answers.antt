use Rattle.std.proofs.Common.{subst}
use Rattle.kernel_values.specs.SceneLaw.{IsLawfulScene}
use Rattle.report_text.proofs.HistoriesFixed.{told_fixed, whatever}
use Rattle.report_text.specs.Forms.{body_lines, end_words}
use Rattle.report_text.specs.Lines.{lined, text_of}
use Rattle.report_text.proofs.Ends.{report_is, report_some}
use Rattle.report_text.proofs.Printed.{begun, not_begun, went_on, went_to_end, stopped}
use Rattle.report_text.proofs.print.print_report.Goals as goal

pub returns-in_err-names-clause-prints : goal.returns-in_err-names-clause-prints
returns-in_err-names-clause-prints g c = not_begun (report_some _ _ _ _ _) c.from_residual.ensures.1

pub returns-in_err-print_body-clause-prints : goal.returns-in_err-print_body-clause-prints
returns-in_err-print_body-clause-prints g c =
    stopped (text_of (body_lines c.in_ok-names.names c.args.journal.now.entries c.args.journal.now.facts c.args.form)) (lined (end_words c.args.end.now))
    (report_is c.args.scene.now c.in_ok-names.names _ _ _ _ c.in_ok-names.ensures)
    (begun _ _ _ _) c.in_err-print_body.ensures.prints c.from_residual-in_err-print_body.ensures.1

pub returns-clause-prints : goal.returns-clause-prints
returns-clause-prints g c =
    went_to_end (went_on (text_of (body_lines c.in_ok-names.names c.args.journal.now.entries c.args.journal.now.facts c.args.form)) (lined (end_words c.args.end.now))
    (report_is c.args.scene.now c.in_ok-names.names _ _ _ _ c.in_ok-names.ensures)
    (begun _ _ _ _) c.in_ok-print_body.ensures.prints) c.print_end.ensures

pub returns-clause-fixes : goal.returns-clause-fixes
returns-clause-fixes g c = λ is. whatever c.print_end.result
    (told_fixed c.args.scene.now c.args.journal.now.entries c.args.journal.now.facts c.args.end.now c.args.form (subst IsLawfulScene c.scene.view_is c.scene.invariant) (c.in_ok-print_body.ensures.within is) is)
