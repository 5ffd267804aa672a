use Rattle.kernel_laws.proofs.Small.{steps_fit}
use Rattle.kernel_laws.proofs.limits.answers_fit_their_room.Goals as goal

pub returns : goal.returns
returns c = steps_fit
