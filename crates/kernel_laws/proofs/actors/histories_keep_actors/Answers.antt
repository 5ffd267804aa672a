use Rattle.kernel_laws.proofs.SameActors.{histories_keep}
use Rattle.kernel_laws.proofs.actors.histories_keep_actors.Goals as goal

pub returns : goal.returns
returns c = histories_keep
