use Rattle.std.proofs.Common.{length}
use Rattle.ns_device.proofs.due.+first_owed.Given as goal

abbrev pub decreases-first_owed : goal.decreases-first_owed
decreases-first_owed g l = length l.entries.now
