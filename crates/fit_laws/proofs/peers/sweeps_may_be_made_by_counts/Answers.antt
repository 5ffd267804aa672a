use Rattle.fit_laws.proofs.Ready.{histories_ready}
use Rattle.fit_laws.proofs.peers.sweeps_may_be_made_by_counts.Goals as goal

pub returns : goal.returns
returns c = histories_ready
