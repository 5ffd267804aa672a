use Rattle.std.proofs.Common.{length}
use Rattle.ns_device.proofs.entries.+entry_between.Given as goal

abbrev pub decreases-entry_between : goal.decreases-entry_between
decreases-entry_between l = length l.entries.now
