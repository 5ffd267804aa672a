use Rattle.name_laws.proofs.There.{change_there}
use Rattle.name_laws.proofs.names.changes_name_what_is_there.Goals as goal

pub returns : goal.returns
returns c = change_there
