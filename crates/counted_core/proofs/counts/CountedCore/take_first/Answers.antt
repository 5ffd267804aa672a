use Rattle.std.proofs.Common.{refl}
use Rattle.kernel_types.specs.Objects.{on_port}
use Rattle.object_store.specs.Stock.{changed, unnamed}
use Rattle.counted_core.specs.Accepting.{listing}
use Rattle.counted_core.specs.Held.{on_value}
use Rattle.counted_core.specs.Sweeping.{core_of}
use Rattle.counted_core.proofs.Pending.{first_total, takes_first}
use Rattle.counted_core.proofs.Totals.{still_waitable}
use Rattle.counted_core.proofs.counts.CountedCore.take_first.Goals as goal

pub invariant_of-self : goal.invariant_of-self
invariant_of-self c =
    let i = c.self.inside in
    let k = core_of i.apps i.threads i.store.items i.store.next i.clock i.bridged in
    let pending = rw (← c.self.view_is) at c.requires in
    let r = takes_first k c.args.server c.args.rest i.store.next c.args.port i.store.items c.sound.ensures c.self.invariant.counted pending in
    rw (c.unname.ensures.items, c.set_pending.ensures.items, c.key_of.ensures) (record {
      counted = r.counted;
      waitable = still_waitable i.threads i.store.items (unnamed (changed i.store.items c.args.port (on_value (on_port (listing c.args.rest)))) c.args.server) (first_total (on_port (listing c.args.rest)) c.args.server c.args.port i.store.items) c.self.invariant.waitable;
    })

pub returns : goal.returns
returns c =
    let i = c.self.inside in
    let k = core_of i.apps i.threads i.store.items i.store.next i.clock i.bridged in
    let pending = rw (← c.self.view_is) at c.requires in
    let r = takes_first k c.args.server c.args.rest i.store.next c.args.port i.store.items c.sound.ensures c.self.invariant.counted pending in
    rw (← c.self.view_is, c.unname.ensures.items, c.unname.ensures.next, c.set_pending.ensures.items, c.set_pending.ensures.next, c.key_of.ensures, r.same) refl
