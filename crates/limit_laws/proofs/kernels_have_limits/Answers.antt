use Rattle.std.proofs.Common.{refl}
use Rattle.kernel_types.specs.Events.{chain_limit}
use Rattle.kernel_types.specs.Kernel.{step_limit}
use Rattle.kernel_types.specs.Tables.{has_room, is_full}
use Rattle.limit_laws.proofs.kernels_have_limits.Goals as goal

pub returns : goal.returns
unfolding chain_limit step_limit has_room is_full
returns c = record {
  ports = (refl, refl, refl);
  parts = refl;
  sends = refl;
  handles = λ table. refl;
  room = λ count table. refl;
  members = refl;
  chains = refl;
  memory = (refl, refl);
  steps = refl;
}
