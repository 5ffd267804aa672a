use Rattle.std.proofs.Common.{◌≡◌, drop}
use Rattle.kernel_types.specs.Device.{has_secure}
use Rattle.ns_device.proofs.entries.has_secure.Given as goal

abbrev pub invariant-loop-entry : goal.invariant-loop-entry
invariant-loop-entry l = has_secure (drop l.entry-index l.entries) l.secure ≡ has_secure l.entries l.secure
