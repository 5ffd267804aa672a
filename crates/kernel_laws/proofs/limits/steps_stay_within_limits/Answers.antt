use Rattle.kernel_laws.proofs.Small.{steps_within}
use Rattle.kernel_laws.proofs.limits.steps_stay_within_limits.Goals as goal

pub returns : goal.returns
returns c = steps_within
