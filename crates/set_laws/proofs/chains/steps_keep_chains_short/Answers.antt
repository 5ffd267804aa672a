use Rattle.set_laws.proofs.Deepening.{steps_keep_short}
use Rattle.set_laws.proofs.chains.steps_keep_chains_short.Goals as goal

pub returns : goal.returns
returns c = steps_keep_short
