use Rattle.kernel_laws.proofs.Histories.{begins}
use Rattle.kernel_laws.proofs.stories.beginnings_are_legal.Goals as goal

pub returns : goal.returns
returns c = begins
