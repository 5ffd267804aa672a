-- A break of a state that is written out, computed.
use Rattle.std.proofs.Common.{◌≡◌, ℕ, List, refl}
use Rattle.std.specs.List.{fold}
use Rattle.kernel_values.specs.declared.flags.PortFlags.{PortFlags}
use Rattle.kernel_values.specs.declared.scene.Manifest.{Manifest}
use Rattle.kernel_types.specs.Bridge.{ns_drop}
use Rattle.kernel_types.specs.Device.{entry_dropped}
use Rattle.kernel_types.specs.Names.{naming}
use Rattle.kernel_types.specs.Reach.{reached_by}
use Rattle.kernel_types.specs.Sweep.{kept, pruned, sweep}
use Rattle.break_laws.specs.WorkedBreak.{after_break, before_break, broken_entries}

pub breaks_so : (manifest : Manifest) (path : List ℕ) (flags : PortFlags) → fold entry_dropped (before_break manifest path flags) broken_entries ≡ after_break manifest path flags
unfolding ns_drop sweep kept pruned naming reached_by
breaks_so manifest path flags = refl
