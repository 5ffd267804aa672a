use Rattle.set_laws.proofs.Circles.{no_circle}
use Rattle.set_laws.proofs.chains.short_chains_are_no_circles.Goals as goal

pub returns : goal.returns
returns c = no_circle
