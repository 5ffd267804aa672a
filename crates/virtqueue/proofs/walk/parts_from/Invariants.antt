use Rattle.std.proofs.Common.{◌-◌}
use Rattle.virtqueue.proofs.Walking.{Walked}
use Rattle.virtqueue.proofs.walk.parts_from.Given as goal

abbrev pub invariant-walk : goal.invariant-walk
invariant-walk l = Walked l.mem l.q l.head l.number l.place l.parts

abbrev pub decreases-walk : goal.decreases-walk
decreases-walk l = l.q.n - l.number
