-- No line in front of the place is `report`.
use Rattle.std.proofs.Common.{length, ◌-◌}
use Rattle.history_check.proofs.Cutting.{NoneBefore}
use Rattle.history_check.proofs.input.cut.Given as goal

abbrev pub invariant-loop-at : goal.invariant-loop-at
invariant-loop-at l = NoneBefore l.input l.at

abbrev pub decreases-loop-at : goal.decreases-loop-at
decreases-loop-at l = length l.input - l.at
