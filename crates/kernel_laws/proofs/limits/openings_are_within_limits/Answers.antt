use Rattle.kernel_laws.proofs.Small.{opening_within}
use Rattle.kernel_laws.proofs.limits.openings_are_within_limits.Goals as goal

pub returns : goal.returns
returns c = opening_within
