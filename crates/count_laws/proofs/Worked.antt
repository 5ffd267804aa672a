-- The sweep of a state that is written out, computed.
use Rattle.std.proofs.Common.{◌≡◌, ℕ, List, refl}
use Rattle.kernel_values.specs.declared.flags.Events.{Events}
use Rattle.kernel_values.specs.declared.flags.PortFlags.{PortFlags}
use Rattle.kernel_values.specs.declared.scene.Manifest.{Manifest}
use Rattle.kernel_types.specs.Names.{naming}
use Rattle.kernel_types.specs.Reach.{reached_by}
use Rattle.kernel_types.specs.Sweep.{kept, pruned, sweep}
use Rattle.count_laws.specs.WorkedSweep.{after_sweep, before_sweep}

pub sweeps_so : (manifest : Manifest) (path : List ℕ) (flags : PortFlags) (mask : Events) → sweep (before_sweep manifest path flags mask) ≡ after_sweep manifest path flags
unfolding sweep kept pruned naming reached_by
sweeps_so manifest path flags mask = refl
