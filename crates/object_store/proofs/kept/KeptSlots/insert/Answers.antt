use Rattle.std.proofs.Common.{arith}
use Rattle.object_store.proofs.Dead.{dead-le}
use Rattle.object_store.proofs.kept.KeptSlots.insert.Goals as goal

pub push_reserved-requires : goal.push_reserved-requires
push_reserved-requires g c =
    let few = dead-le c.self.inside.slab c.self.inside.dead c.self.invariant in
    let room = rw (← c.self.view_is) at c.requires in
    omega (arith, few, room)
