use Rattle.kernel_laws.proofs.Small.{histories_within, opening_within}
use Rattle.kernel_laws.proofs.limits.answers_are_small.Goals as goal

pub returns : goal.returns
returns c = λ scene entries legal. (histories_within _ entries (opening_within scene) legal).1
