use Rattle.count_laws.proofs.Dropping.{drops_on}
use Rattle.count_laws.proofs.counts.dropping_thins.Goals as goal

pub returns : goal.returns
returns c = drops_on
