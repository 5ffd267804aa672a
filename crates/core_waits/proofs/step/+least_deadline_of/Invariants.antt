use Rattle.std.proofs.Common.{length}
use Rattle.core_waits.proofs.step.+least_deadline_of.Given as goal

abbrev pub decreases-least_deadline_of : goal.decreases-least_deadline_of
decreases-least_deadline_of l = length l.threads.now
