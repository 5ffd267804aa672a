use Rattle.std.proofs.Common.{◌≡◌, take, vec_capacity}
use Rattle.plain_objects.proofs.reach.write_all.Given as goal

abbrev pub invariant-loop-number : goal.invariant-loop-number
invariant-loop-number l = (l.list.items ≡ take l.number-index l.numbers) × (vec_capacity l.list ≡ vec_capacity l.initial.list)
