use Rattle.app_laws.proofs.Histories.{histories_none}
use Rattle.app_laws.proofs.ended.ended_applications_name_none.Goals as goal

pub returns : goal.returns
returns c = histories_none
