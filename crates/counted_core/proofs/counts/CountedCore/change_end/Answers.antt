use Rattle.std.proofs.Common.{refl}
use Rattle.kernel_types.specs.Objects.{on_end}
use Rattle.counted_core.specs.EndChanges.{end_after}
use Rattle.object_store.specs.Stock.{changed}
use Rattle.counted_core.specs.Held.{on_value}
use Rattle.counted_core.specs.Sweeping.{core_of}
use Rattle.counted_core.proofs.Naming.{keeps_counts}
use Rattle.counted_core.proofs.Quiet.{quiet_names}
use Rattle.counted_core.proofs.Totals.{changed_total_most, still_waitable}
use Rattle.counted_core.proofs.counts.CountedCore.change_end.Goals as goal

pub invariant_of-self : goal.invariant_of-self
invariant_of-self c =
    let k = core_of c.self.inside.apps c.self.inside.threads c.self.inside.store.items c.self.inside.store.next c.self.inside.clock c.self.inside.bridged in
    let r = keeps_counts k (on_end (end_after c.args.change)) c.self.inside.store.next c.args.id c.self.inside.store.items (quiet_names c.args.change) c.sound.ensures c.self.invariant.counted in
    rw c.change_in.ensures.items (record { counted = r.counted; waitable = still_waitable c.self.inside.threads c.self.inside.store.items (changed c.self.inside.store.items c.args.id (on_value (on_end (end_after c.args.change)))) (changed_total_most (on_end (end_after c.args.change)) c.args.id c.self.inside.store.items) c.self.invariant.waitable })

pub returns : goal.returns
returns c =
    let k = core_of c.self.inside.apps c.self.inside.threads c.self.inside.store.items c.self.inside.store.next c.self.inside.clock c.self.inside.bridged in
    let r = keeps_counts k (on_end (end_after c.args.change)) c.self.inside.store.next c.args.id c.self.inside.store.items (quiet_names c.args.change) c.sound.ensures c.self.invariant.counted in
    rw (← c.self.view_is, c.change_in.ensures.items, c.change_in.ensures.next, r.same) refl
