use Rattle.step_laws.proofs.Steps.{steps_walk}
use Rattle.step_laws.proofs.walks.steps_are_walks.Goals as goal

pub returns : goal.returns
returns c = steps_walk
