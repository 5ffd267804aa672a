use Rattle.report_text.proofs.Printed.{line_not_begun, line_printed}
use Rattle.report_text.proofs.actors.print_call.Goals as goal

pub returns-in_err-write_answered_call : goal.returns-in_err-write_answered_call
returns-in_err-write_answered_call g c = line_not_begun _ c.from_residual.ensures.1

pub returns : goal.returns
returns g c = line_printed _ c.print_line.ensures c.in_ok-write_answered_call.ensures c.clear.ensures
