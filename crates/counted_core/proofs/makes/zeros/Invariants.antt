use Rattle.std.proofs.Common.{◌≡◌, replicate}
use Rattle.counted_core.proofs.makes.zeros.Given as goal

abbrev pub invariant-loop-turn : goal.invariant-loop-turn
invariant-loop-turn l = l.bytes ≡ replicate l._turn 0
