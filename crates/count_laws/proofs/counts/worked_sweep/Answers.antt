use Rattle.count_laws.proofs.Worked.{sweeps_so}
use Rattle.count_laws.proofs.counts.worked_sweep.Goals as goal

pub returns : goal.returns
returns c = sweeps_so
