use Rattle.std.proofs.Common.{◌≡◌, take}
use Rattle.kernel_types.specs.Device.{without_entry}
use Rattle.ns_device.proofs.entries.without_entry.Given as goal

abbrev pub invariant-loop-other : goal.invariant-loop-other
invariant-loop-other l = l.rest ≡ without_entry l.entry (take l.other-index l.other-items)
