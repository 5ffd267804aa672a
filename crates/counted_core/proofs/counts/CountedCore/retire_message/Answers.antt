use Rattle.std.proofs.Common.{refl}
use Rattle.core_changes.specs.Looks.{messages_in}
use Rattle.object_store.specs.Stock.{value_at}
use Rattle.counted_core.specs.Found.{end_if}
use Rattle.counted_core.specs.Retiring.{retired_items}
use Rattle.counted_core.specs.Sweeping.{core_of}
use Rattle.counted_core.proofs.Retires.{retired_total, retires}
use Rattle.counted_core.proofs.Totals.{still_waitable}
use Rattle.counted_core.proofs.counts.CountedCore.retire_message.Goals as goal

pub invariant_of-self : goal.invariant_of-self
invariant_of-self c =
    let k = core_of c.self.inside.apps c.self.inside.threads c.self.inside.store.items c.self.inside.store.next c.self.inside.clock c.self.inside.bridged in
    let r = retires k c.args.number c.self.inside.store.next c.args.id c.self.inside.store.items c.sound.ensures c.self.invariant.counted in
    rw c.retire_in.ensures.items (record { counted = r.counted; waitable = still_waitable c.self.inside.threads c.self.inside.store.items (retired_items c.args.number c.args.id (messages_in (end_if (value_at c.self.inside.store.items c.args.id))) c.self.inside.store.items) (retired_total c.args.number c.args.id (messages_in (end_if (value_at c.self.inside.store.items c.args.id))) c.self.inside.store.items) c.self.invariant.waitable })

pub returns : goal.returns
returns c =
    let k = core_of c.self.inside.apps c.self.inside.threads c.self.inside.store.items c.self.inside.store.next c.self.inside.clock c.self.inside.bridged in
    let r = retires k c.args.number c.self.inside.store.next c.args.id c.self.inside.store.items c.sound.ensures c.self.invariant.counted in
    rw (← c.self.view_is, c.retire_in.ensures.items, c.retire_in.ensures.next, r.same) refl
