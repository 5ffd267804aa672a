use Rattle.std.proofs.Common.{◌≡◌, false}
use Rattle.handle_set.specs.Sets.{is_open}
use Rattle.set_bench.proofs.sets.tell_all.Given as goal

abbrev pub invariant-loop-turn : goal.invariant-loop-turn
invariant-loop-turn l = is_open l.sets.sets l.object.serial ≡ false
