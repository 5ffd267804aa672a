use Rattle.std.proofs.Common.{◌≡◌, replicate}
use Rattle.runners.proofs.answered.none_answered.Given as goal

abbrev pub invariant-loop-actor : goal.invariant-loop-actor
invariant-loop-actor l = l.counts.items ≡ replicate l._actor 0
