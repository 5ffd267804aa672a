use Rattle.std.proofs.Common.{◌≡◌, vec_capacity}
use Rattle.kernel_types.specs.Reach.{rounds}
use Rattle.plain_objects.proofs.reach.mark_rounds.Given as goal

abbrev pub invariant-loop-turn : goal.invariant-loop-turn
invariant-loop-turn l = (l.marked.items ≡ rounds l._turn l.names) × (vec_capacity l.marked ≡ vec_capacity l.initial.marked) × (vec_capacity l.more ≡ vec_capacity l.initial.more)
