use Rattle.std.proofs.Common.{◌≡◌, drop}
use Rattle.handle_set.specs.Sets.{is_open}
use Rattle.handle_set.proofs.adding.is_open.Given as goal

abbrev pub invariant-loop-set : goal.invariant-loop-set
invariant-loop-set l = is_open (drop l.set-index l.sets) l.id ≡ is_open l.sets l.id
