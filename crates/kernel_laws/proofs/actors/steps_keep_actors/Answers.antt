use Rattle.kernel_laws.proofs.SameActors.{steps_keep}
use Rattle.kernel_laws.proofs.actors.steps_keep_actors.Goals as goal

pub returns : goal.returns
returns c = steps_keep
