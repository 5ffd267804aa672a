use Rattle.std.proofs.Common.{length}
use Rattle.ns_device.proofs.breaking.+drop_ends.Given as goal

abbrev pub decreases-drop_ends : goal.decreases-drop_ends
decreases-drop_ends g l = length l.entries.now
