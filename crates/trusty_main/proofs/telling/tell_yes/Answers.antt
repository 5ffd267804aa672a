-- Where memory is wanted for the line, none of it was written.
use Rattle.trusty_main.proofs.Untold.{untold_yes}
use Rattle.trusty_main.proofs.telling.tell_yes.Goals as goal

pub returns-in_default : goal.returns-in_default
returns-in_default g c = record { tells = untold_yes _ _ _ }
