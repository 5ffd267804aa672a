use Rattle.app_laws.proofs.Histories.{steps_settle}
use Rattle.app_laws.proofs.ended.steps_keep_settled.Goals as goal

pub returns : goal.returns
returns c = steps_settle
