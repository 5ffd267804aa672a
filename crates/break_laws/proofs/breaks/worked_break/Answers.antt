use Rattle.break_laws.proofs.Worked.{breaks_so}
use Rattle.break_laws.proofs.breaks.worked_break.Goals as goal

pub returns : goal.returns
returns c = breaks_so
