use Rattle.app_laws.proofs.Histories.{name_none}
use Rattle.app_laws.proofs.ended.settled_states_name_none.Goals as goal

pub returns : goal.returns
returns c = name_none
