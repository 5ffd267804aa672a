use Rattle.std.proofs.Common.{ap, arith}
use Rattle.slab.specs.Slab.{slab_len}
use Rattle.object_store.proofs.Dead.{dead-le}
use Rattle.object_store.proofs.kept.KeptSlots.reserve.Goals as goal

pub overflow_sub-more : goal.overflow_sub-more
overflow_sub-more g c =
    let few = dead-le c.self.inside.slab c.self.inside.dead c.self.invariant in
    let same = ap slab_len c.reserve.ensures.rest_kept in
    omega (arith, few, same, c.capacity.ensures.holds_all, c.len.ensures)
