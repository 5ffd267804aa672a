use Rattle.std.proofs.Common.{◌+◌, ◌≤◌, length, arith, tests, refl}
use Rattle.kernel_types.specs.Memories.{written}
use Rattle.kernel_types.specs.Objects.{memory_of, on_memory}
use Rattle.core_changes.specs.Looks.{bytes_in}
use Rattle.object_store.specs.Stock.{changed}
use Rattle.counted_core.specs.Held.{objects_of, on_value}
use Rattle.counted_core.specs.Sweeping.{core_of}
use Rattle.counted_core.proofs.Naming.{keeps_counts, memory_value}
use Rattle.counted_core.proofs.Quiet.{memory_names}
use Rattle.counted_core.proofs.Totals.{changed_total_most, still_waitable}
use Rattle.counted_core.proofs.counts.CountedCore.write_memory.Goals as goal

pub invariant_of-self : goal.invariant_of-self
invariant_of-self c =
    let k = core_of c.self.inside.apps c.self.inside.threads c.self.inside.store.items c.self.inside.store.next c.self.inside.clock c.self.inside.bridged in
    let r = keeps_counts k (on_memory (written c.args.offset c.args.bytes.now)) c.self.inside.store.next c.args.id c.self.inside.store.items (memory_names (written c.args.offset c.args.bytes.now)) c.sound.ensures c.self.invariant.counted in
    rw (c.write_in.ensures.items, c.as_slice.ensures) (record { counted = r.counted; waitable = still_waitable c.self.inside.threads c.self.inside.store.items (changed c.self.inside.store.items c.args.id (on_value (on_memory (written c.args.offset c.args.bytes.now)))) (changed_total_most (on_memory (written c.args.offset c.args.bytes.now)) c.args.id c.self.inside.store.items) c.self.invariant.waitable })

pub returns : goal.returns
returns c =
    let k = core_of c.self.inside.apps c.self.inside.threads c.self.inside.store.items c.self.inside.store.next c.self.inside.clock c.self.inside.bridged in
    let r = keeps_counts k (on_memory (written c.args.offset c.args.bytes.now)) c.self.inside.store.next c.args.id c.self.inside.store.items (memory_names (written c.args.offset c.args.bytes.now)) c.sound.ensures c.self.invariant.counted in
    rw (← c.self.view_is, c.write_in.ensures.items, c.write_in.ensures.next, c.as_slice.ensures, r.same) refl

pub write_in-requires : goal.write_in-requires
write_in-requires c =
    let within = rw (← c.self.view_is) at c.requires in
    let fits : c.args.offset + length c.args.bytes.now ≤ length (bytes_in (memory_of (objects_of c.self.inside.store.items) c.args.id)) = grind (arith, tests, within) in
    rw (c.as_slice.ensures, ← memory_value c.self.inside.store.items c.args.id) fits
