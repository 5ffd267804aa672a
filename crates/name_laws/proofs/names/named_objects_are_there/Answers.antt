use Rattle.name_laws.proofs.There.{histories_there}
use Rattle.name_laws.proofs.names.named_objects_are_there.Goals as goal

pub returns : goal.returns
returns c = histories_there
