use Rattle.std.proofs.Common.{refl, arith}
use Rattle.object_store.proofs.store.Store.reserve.Goals as goal

pub returns-clause-ready : goal.returns-clause-ready
returns-clause-ready g c =
    let len = c.self.invariant.ordered.len in
    let fits = c.self.invariant.ordered.room in
    rw (← c.self.view_is) (λ few. c.reserve-2.ensures.ready (omega (arith, len, fits, few)))

pub returns-clause-stays : goal.returns-clause-stays
returns-clause-stays g c =
    let holds = c.reserve.ensures.holds in
    let len = c.self.invariant.ordered.len in
    let fits = c.self.invariant.ordered.room in
    rw (← c.self.view_is) (λ few.
    let slab = c.reserve.ensures.stays (omega (arith, holds, few)) in
    let order = c.reserve-2.ensures.stays (omega (arith, len, fits, few)) in
    rw (slab, order) refl)
