use Rattle.fit_laws.proofs.Mutual.{mutual_peers}
use Rattle.fit_laws.proofs.Steps.{histories_fit}
use Rattle.fit_laws.proofs.peers.peers_are_mutual.Goals as goal
use Rattle.kernel_types.specs.History.{state_after}
use Rattle.kernel_types.specs.Opening.{opening}

pub returns : goal.returns
returns c = λ scene entries. mutual_peers (state_after (opening scene) entries).core (histories_fit scene entries)
