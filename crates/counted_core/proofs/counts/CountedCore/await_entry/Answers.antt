use Rattle.std.proofs.Common.{◌≡◌, [], true, Some, refl, sym, ◌∙◌, ap}
use Rattle.std.specs.Prelude.{slice_get}
use Rattle.std.specs.Option.{option_copied_mut, option_map}
use Rattle.handle_table.specs.Places.{slot_entry}
use Rattle.kernel_values.specs.declared.state.Activity.TheVariants as activity
use Rattle.kernel_values.specs.declared.state.Thread.{Thread}
use Rattle.kernel_values.specs.declared.state.WaitOn.TheVariants as wait_on
use Rattle.kernel_types.specs.Names.{activity_names, wait_names}
use Rattle.kernel_types.specs.Objects.{is_there}
use Rattle.kernel_types.specs.Tables.{entry_at, table_in}
use Rattle.kernel_types.specs.Threads.{new_wait}
use Rattle.counted_core.specs.Held.{objects_of}
use Rattle.counted_core.proofs.Roots.{held_there}
use Rattle.counted_core.proofs.Waits.{set_same_waits, wait_room, waits_for}
use Rattle.counted_core.proofs.counts.CountedCore.await_entry.Goals as goal

pub invariant_of-self-in_default-activity : goal.invariant_of-self-in_default-activity
invariant_of-self-in_default-activity c =
    let a : Thread = c.in-Some-get_mut.waiter.now in
    let is : slice_get c.self.inside.threads c.args.thread ≡ Some a = sym c.get_mut.ensures.value ∙ ap option_copied_mut c.in-Some-get_mut.is in
    set_same_waits c.self.inside.apps c.self.inside.threads c.self.inside.store.items c.self.inside.store.next c.self.inside.clock c.self.inside.bridged c.args.thread a a is refl c.self.invariant

pub name-requires : goal.name-requires
name-requires c =
    let a : Thread = c.in-Some-get_mut.waiter.now in
    let is : slice_get c.self.inside.threads c.args.thread ≡ Some a = sym c.get_mut.ensures.value ∙ ap option_copied_mut c.in-Some-get_mut.is in
    let none : wait_names a ≡ [] = ap activity_names c.in-Running.is in
    wait_room c.self.inside.threads c.self.inside.store.items c.args.thread a is none c.self.invariant.waitable

pub invariant_of-self-2 : goal.invariant_of-self-2
invariant_of-self-2 c =
    let a : Thread = c.in-Some-get_mut.waiter.now in
    let entry = slot_entry c.args.handle c.in-Some.slot in
    let b : Thread = record { app = a.app; activity = activity.Waiting c.in-Running.start (new_wait (wait_on.Object entry.object entry.handle entry.cookie) c.args.deadline) } in
    let is : slice_get c.self.inside.threads c.args.thread ≡ Some a = sym c.get_mut.ensures.value ∙ ap option_copied_mut c.in-Some-get_mut.is in
    let got = rw (← c.self.view_is) at c.get.ensures in
    let found : entry_at (table_in (slice_get c.self.inside.apps c.args.app)) c.args.handle ≡ Some entry = sym got ∙ ap (option_map (slot_entry c.args.handle)) c.in-Some.is in
    let there : is_there (objects_of c.self.inside.store.items) entry.object ≡ true = held_there c.self.inside.apps c.self.inside.threads c.self.inside.store.items c.self.inside.store.next c.self.inside.clock c.self.inside.bridged c.args.app c.args.handle entry c.self.invariant.counted found in
    let r = waits_for c.self.inside.apps c.self.inside.threads c.self.inside.store.items c.self.inside.store.next c.self.inside.clock c.self.inside.bridged c.args.thread entry.object a b is (ap activity_names c.in-Running.is) refl there c.sound.ensures c.self.invariant in
    rw c.name.ensures r.exact

pub returns : goal.returns
returns c =
    let a : Thread = c.in-Some-get_mut.waiter.now in
    let entry = slot_entry c.args.handle c.in-Some.slot in
    let b : Thread = record { app = a.app; activity = activity.Waiting c.in-Running.start (new_wait (wait_on.Object entry.object entry.handle entry.cookie) c.args.deadline) } in
    let is : slice_get c.self.inside.threads c.args.thread ≡ Some a = sym c.get_mut.ensures.value ∙ ap option_copied_mut c.in-Some-get_mut.is in
    let got = rw (← c.self.view_is) at c.get.ensures in
    let found : entry_at (table_in (slice_get c.self.inside.apps c.args.app)) c.args.handle ≡ Some entry = sym got ∙ ap (option_map (slot_entry c.args.handle)) c.in-Some.is in
    let there : is_there (objects_of c.self.inside.store.items) entry.object ≡ true = held_there c.self.inside.apps c.self.inside.threads c.self.inside.store.items c.self.inside.store.next c.self.inside.clock c.self.inside.bridged c.args.app c.args.handle entry c.self.invariant.counted found in
    let r = waits_for c.self.inside.apps c.self.inside.threads c.self.inside.store.items c.self.inside.store.next c.self.inside.clock c.self.inside.bridged c.args.thread entry.object a b is (ap activity_names c.in-Running.is) refl there c.sound.ensures c.self.invariant in
    rw (← c.self.view_is, c.name.ensures, r.same, is, found, c.in-Running.is) refl
