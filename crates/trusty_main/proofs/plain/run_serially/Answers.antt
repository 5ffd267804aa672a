-- The report of the serial run, where it was written; where memory is wanted, nothing was.
use Rattle.trusty_main.proofs.Headline.{serial_reported}
use Rattle.trusty_main.proofs.Untold.{untold_run}
use Rattle.trusty_main.proofs.plain.run_serially.Goals as goal

pub returns-in-Ok-clause-reported : goal.returns-in-Ok-clause-reported
returns-in-Ok-clause-reported g c = λ is. serial_reported _ _ _ _ _ c.in-Ok.ensures.whole c.in-Ok.ensures.carried (c.tell_report-told.ensures.reports is)

pub returns-in-Err-NoMemory-clause-tells : goal.returns-in-Err-NoMemory-clause-tells
returns-in-Err-NoMemory-clause-tells g c = untold_run _ _ _ _ _
