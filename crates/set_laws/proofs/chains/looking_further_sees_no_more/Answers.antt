use Rattle.set_laws.proofs.Looking.{sees_no_more}
use Rattle.set_laws.proofs.chains.looking_further_sees_no_more.Goals as goal

pub returns : goal.returns
returns c = sees_no_more
