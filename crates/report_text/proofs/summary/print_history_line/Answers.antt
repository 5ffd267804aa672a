use Rattle.report_text.proofs.Printed.{line_not_begun, line_printed}
use Rattle.report_text.proofs.summary.print_history_line.Goals as goal

pub returns-in_err-write_history : goal.returns-in_err-write_history
returns-in_err-write_history g c = line_not_begun _ c.from_residual.ensures.1

pub returns : goal.returns
returns g c = line_printed _ c.print_line.ensures c.in_ok-write_history.ensures c.clear.ensures
