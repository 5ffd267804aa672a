use Rattle.std.proofs.Common.{◌≡◌, ◌≤◌, length, take, vec_capacity}
use Rattle.kernel_types.specs.Reach.{spread}
use Rattle.plain_objects.proofs.reach.spread.Given as goal

abbrev pub invariant-loop-name : goal.invariant-loop-name
invariant-loop-name l = (l.more.items ≡ spread (take l.name-index l.names) l.marked) × (length l.more.items ≤ l.name-index) × (vec_capacity l.more ≡ vec_capacity l.initial.more)
