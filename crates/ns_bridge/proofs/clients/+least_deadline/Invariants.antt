use Rattle.std.proofs.Common.{length}
use Rattle.ns_bridge.proofs.clients.+least_deadline.Given as goal

abbrev pub decreases-least_deadline : goal.decreases-least_deadline
decreases-least_deadline l = length l.clients.now
