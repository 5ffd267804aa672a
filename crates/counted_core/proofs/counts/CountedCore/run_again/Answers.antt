use Rattle.std.proofs.Common.{◌≡◌, [], Some, refl, sym, ◌∙◌, ap}
use Rattle.std.specs.Prelude.{slice_get}
use Rattle.std.specs.Option.{option_copied_mut}
use Rattle.kernel_values.specs.declared.state.Thread.{Thread}
use Rattle.kernel_types.specs.Names.{activity_names, wait_names}
use Rattle.counted_core.proofs.Waits.{running_names, leaves}
use Rattle.counted_core.proofs.counts.CountedCore.run_again.Goals as goal

pub invariant_of-self-2 : goal.invariant_of-self-2
invariant_of-self-2 c =
    let a : Thread = c.in-Some.waiter.now in
    let b : Thread = record { app = a.app; activity = c.running_activity-waiter.result } in
    let is : slice_get c.self.inside.threads c.args.thread ≡ Some a = sym c.get_mut.ensures.value ∙ ap option_copied_mut c.in-Some.is in
    let none : wait_names b ≡ [] = ap activity_names c.running_activity-waiter.ensures ∙ running_names a.activity in
    let r = leaves c.self.inside.apps c.self.inside.threads c.self.inside.store.items c.self.inside.store.next c.self.inside.clock c.self.inside.bridged c.args.thread a b is none c.sound.ensures c.self.invariant in
    rw (c.unname_waited.ensures.items, c.unname_waited.ensures.next) r.exact

pub returns : goal.returns
returns c =
    let a : Thread = c.in-Some.waiter.now in
    let b : Thread = record { app = a.app; activity = c.running_activity-waiter.result } in
    let is : slice_get c.self.inside.threads c.args.thread ≡ Some a = sym c.get_mut.ensures.value ∙ ap option_copied_mut c.in-Some.is in
    let none : wait_names b ≡ [] = ap activity_names c.running_activity-waiter.ensures ∙ running_names a.activity in
    let r = leaves c.self.inside.apps c.self.inside.threads c.self.inside.store.items c.self.inside.store.next c.self.inside.clock c.self.inside.bridged c.args.thread a b is none c.sound.ensures c.self.invariant in
    rw (← c.self.view_is, c.running_activity-waiter.ensures, c.unname_waited.ensures.items, c.unname_waited.ensures.next, r.same, is) refl
