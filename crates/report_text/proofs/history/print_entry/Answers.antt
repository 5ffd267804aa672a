use Rattle.report_text.proofs.Printed.{line_not_begun, line_printed}
use Rattle.report_text.proofs.history.print_entry.Goals as goal

pub returns-in_err-write_entry-clause-prints : goal.returns-in_err-write_entry-clause-prints
returns-in_err-write_entry-clause-prints g c = line_not_begun _ c.from_residual.ensures.1

pub returns-clause-prints : goal.returns-clause-prints
returns-clause-prints g c = line_printed _ c.print_line.ensures c.in_ok-write_entry.ensures.told c.clear.ensures
