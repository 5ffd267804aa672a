use Rattle.std.proofs.Common.{◌≡◌, drop}
use Rattle.kernel_types.specs.Reach.{is_in}
use Rattle.counted_core.proofs.sweep.is_in.Given as goal

abbrev pub invariant-loop-other : goal.invariant-loop-other
invariant-loop-other l = is_in (drop l.other-index l.numbers) l.number ≡ is_in l.numbers l.number
