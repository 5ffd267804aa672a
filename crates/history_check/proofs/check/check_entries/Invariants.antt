-- The entries so far are taken, and the lines that are left are fewer than the steps.
use Rattle.std.proofs.Common.{length}
use Rattle.history_check.proofs.Taken.{Goes}
use Rattle.history_check.proofs.check.check_entries.Given as goal

abbrev pub invariant-loop-line : goal.invariant-loop-line
invariant-loop-line g l = Goes l.initial.actors (g.K.IpcKernel.state l.initial.kernel) l.text l.rest l.actors (g.K.IpcKernel.state l.kernel) (g.K.IpcKernel.made l.kernel) l.k

abbrev pub decreases-loop-line : goal.decreases-loop-line
decreases-loop-line g l = length l.rest
