use Rattle.kernel_types.specs.Reach.{is_in}
use Rattle.std.proofs.Common.{drop, ◌≡◌}
use Rattle.plain_objects.proofs.reach.is_in.Given as goal

abbrev pub invariant-loop-mark : goal.invariant-loop-mark
invariant-loop-mark l = is_in (drop l.mark-index l.marked) l.object ≡ is_in l.marked l.object
