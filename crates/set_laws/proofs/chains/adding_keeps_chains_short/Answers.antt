use Rattle.set_laws.proofs.Adding.{adding_keeps_short}
use Rattle.set_laws.proofs.chains.adding_keeps_chains_short.Goals as goal

pub returns : goal.returns
returns c = adding_keeps_short
