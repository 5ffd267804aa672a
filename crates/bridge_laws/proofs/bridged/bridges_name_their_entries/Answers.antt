use Rattle.bridge_laws.proofs.Steps.{histories_bridged}
use Rattle.bridge_laws.proofs.bridged.bridges_name_their_entries.Goals as goal

pub returns : goal.returns
returns c = histories_bridged
