-- Where memory is wanted for the kernel, nothing was written.
use Rattle.trusty_main.proofs.Untold.{untold_run}
use Rattle.trusty_main.proofs.plain.run.Goals as goal

pub returns-in_default-clause-tells : goal.returns-in_default-clause-tells
returns-in_default-clause-tells g c = untold_run _ _ _ _ _
