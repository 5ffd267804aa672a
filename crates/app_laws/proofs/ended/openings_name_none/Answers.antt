use Rattle.app_laws.proofs.Histories.{openings_none}
use Rattle.app_laws.proofs.ended.openings_name_none.Goals as goal

pub returns : goal.returns
returns c = openings_none
