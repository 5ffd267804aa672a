use Rattle.app_laws.proofs.Histories.{settled_openings}
use Rattle.app_laws.proofs.ended.openings_are_settled.Goals as goal

pub returns : goal.returns
returns c = settled_openings
