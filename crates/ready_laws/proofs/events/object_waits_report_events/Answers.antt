use Rattle.ready_laws.proofs.Reporting.{object_report}
use Rattle.ready_laws.proofs.events.object_waits_report_events.Goals as goal

pub returns : goal.returns
returns c = object_report c.looking_further_sees_no_more.ensures
