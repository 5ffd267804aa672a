use Rattle.fit_laws.proofs.Steps.{histories_fit}
use Rattle.fit_laws.proofs.peers.histories_fit.Goals as goal

pub returns : goal.returns
returns c = histories_fit
