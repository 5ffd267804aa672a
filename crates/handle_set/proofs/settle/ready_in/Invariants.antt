use Rattle.std.proofs.Common.{◌≡◌, drop}
use Rattle.handle_set.specs.Sets.{ready_in}
use Rattle.handle_set.proofs.settle.ready_in.Given as goal

abbrev pub invariant-loop-set : goal.invariant-loop-set
invariant-loop-set l = ready_in (drop l.set-index l.sets) l.id ≡ ready_in l.sets l.id
