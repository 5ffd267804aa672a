use Rattle.std.proofs.Common.{refl}
use Rattle.kernel_types.specs.Turns.{history_limit}
use Rattle.limit_laws.proofs.runs_have_limits.Goals as goal

pub returns : goal.returns
unfolding history_limit
returns c = record { input = refl; read_size = refl; history = refl }
