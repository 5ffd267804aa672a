use Rattle.kernel_laws.proofs.SameActors.{one_status_each}
use Rattle.kernel_laws.proofs.actors.actors_have_a_status.Goals as goal

pub returns : goal.returns
returns c = one_status_each
