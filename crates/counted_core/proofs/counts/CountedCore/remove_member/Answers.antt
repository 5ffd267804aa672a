use Rattle.std.proofs.Common.{refl}
use Rattle.core_changes.specs.Looks.{members_in}
use Rattle.object_store.specs.Stock.{value_at}
use Rattle.counted_core.specs.Found.{set_if}
use Rattle.counted_core.specs.Members.{removed_items}
use Rattle.counted_core.specs.Sweeping.{core_of}
use Rattle.counted_core.proofs.Leaves.{removed_total, removes_member}
use Rattle.counted_core.proofs.Totals.{still_waitable}
use Rattle.counted_core.proofs.counts.CountedCore.remove_member.Goals as goal

pub invariant_of-self : goal.invariant_of-self
invariant_of-self c =
    let k = core_of c.self.inside.apps c.self.inside.threads c.self.inside.store.items c.self.inside.store.next c.self.inside.clock c.self.inside.bridged in
    let r = removes_member k c.args.label c.self.inside.store.next c.args.id c.self.inside.store.items c.sound.ensures c.self.invariant.counted in
    rw c.remove_in.ensures.items (record { counted = r.counted; waitable = still_waitable c.self.inside.threads c.self.inside.store.items (removed_items c.args.label c.args.id (members_in (set_if (value_at c.self.inside.store.items c.args.id))) c.self.inside.store.items) (removed_total c.args.label c.args.id (members_in (set_if (value_at c.self.inside.store.items c.args.id))) c.self.inside.store.items) c.self.invariant.waitable })

pub returns : goal.returns
returns c =
    let k = core_of c.self.inside.apps c.self.inside.threads c.self.inside.store.items c.self.inside.store.next c.self.inside.clock c.self.inside.bridged in
    let r = removes_member k c.args.label c.self.inside.store.next c.args.id c.self.inside.store.items c.sound.ensures c.self.invariant.counted in
    rw (← c.self.view_is, c.remove_in.ensures.items, c.remove_in.ensures.next, r.same) refl
