use Rattle.count_laws.proofs.Dropping.{ends_in_sweep}
use Rattle.count_laws.proofs.counts.dropping_ends_in_the_sweep.Goals as goal

pub returns : goal.returns
returns c = ends_in_sweep
