use Rattle.ready_laws.proofs.Reporting.{table_report}
use Rattle.ready_laws.proofs.events.table_waits_report_events.Goals as goal

pub returns : goal.returns
returns c = table_report
