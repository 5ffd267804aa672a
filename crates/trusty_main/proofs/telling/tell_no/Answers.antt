-- Where memory is wanted for the line, none of it was written.
use Rattle.trusty_main.proofs.Untold.{untold_no}
use Rattle.trusty_main.proofs.telling.tell_no.Goals as goal

pub returns-in_default : goal.returns-in_default
returns-in_default g c = record { tells = untold_no _ _ _ }
