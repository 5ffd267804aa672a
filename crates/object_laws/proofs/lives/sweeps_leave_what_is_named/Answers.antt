use Rattle.object_laws.proofs.Sweeping.{swept_iff}
use Rattle.object_laws.proofs.lives.sweeps_leave_what_is_named.Goals as goal

pub returns : goal.returns
returns c = swept_iff
