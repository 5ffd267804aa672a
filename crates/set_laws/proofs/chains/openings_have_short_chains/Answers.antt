use Rattle.set_laws.proofs.Circles.{openings_short}
use Rattle.set_laws.proofs.chains.openings_have_short_chains.Goals as goal

pub returns : goal.returns
returns c = openings_short
