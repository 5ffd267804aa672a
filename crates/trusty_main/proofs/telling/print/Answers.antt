-- The report that was printed is that of the journal.
use Rattle.std.proofs.Common.{◌∙◌, ap}
use Rattle.kernel_values.specs.declared.state.State.{State}
use Rattle.kernel_types.specs.Facts.{end_facts}
use Rattle.trusty_main.proofs.Reporting.{report_of_book}
use Rattle.trusty_main.proofs.telling.print.Goals as goal

pub returns-clause-reports : goal.returns-clause-reports
returns-clause-reports g c =
    report_of_book _ c.args.logged.now c.journal.result.now c.end_facts-end.result _ _ _ _ _ _ _ _ c.journal.ensures c.requires c.legal.ensures.facts
    (c.end_facts-end.ensures ∙ ap (λ (s : State). end_facts s) c.kernel.ensures.state) c.print_report.ensures.prints c.print_report.ensures.fixes
