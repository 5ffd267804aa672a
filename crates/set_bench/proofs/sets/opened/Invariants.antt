use Rattle.set_bench.specs.Fresh.{HaveNoMembers}
use Rattle.set_bench.proofs.sets.opened.Given as goal

abbrev pub invariant-loop-serial : goal.invariant-loop-serial
invariant-loop-serial l = HaveNoMembers l.sets.sets
