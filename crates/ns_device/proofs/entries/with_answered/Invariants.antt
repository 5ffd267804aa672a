use Rattle.std.proofs.Common.{◌≡◌, map, take}
use Rattle.kernel_types.specs.Device.{answered_entry}
use Rattle.ns_device.proofs.entries.with_answered.Given as goal

abbrev pub invariant-loop-entry : goal.invariant-loop-entry
invariant-loop-entry l = l.after ≡ map (answered_entry l.secure) (take l.entry-index l.entry-items)
