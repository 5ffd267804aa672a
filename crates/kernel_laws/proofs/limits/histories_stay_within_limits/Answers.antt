use Rattle.kernel_laws.proofs.Small.{histories_within, opening_within}
use Rattle.kernel_laws.proofs.limits.histories_stay_within_limits.Goals as goal

pub returns : goal.returns
returns c = λ scene entries legal. (histories_within _ entries (opening_within scene) legal).0
