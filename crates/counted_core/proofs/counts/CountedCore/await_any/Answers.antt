use Rattle.std.proofs.Common.{◌≡◌, Some, refl, sym, ◌∙◌, ap}
use Rattle.std.specs.Prelude.{slice_get}
use Rattle.std.specs.Option.{option_copied_mut}
use Rattle.kernel_values.specs.declared.state.Activity.TheVariants as activity
use Rattle.kernel_values.specs.declared.state.Thread.{Thread}
use Rattle.kernel_values.specs.declared.state.WaitOn.TheVariants as wait_on
use Rattle.kernel_types.specs.Names.{activity_names}
use Rattle.kernel_types.specs.Threads.{new_wait}
use Rattle.counted_core.proofs.Waits.{set_same_waits}
use Rattle.counted_core.proofs.counts.CountedCore.await_any.Goals as goal

pub invariant_of-self-in_default-activity : goal.invariant_of-self-in_default-activity
invariant_of-self-in_default-activity c =
    let a : Thread = c.in-Some.waiter.now in
    let is : slice_get c.self.inside.threads c.args.thread ≡ Some a = sym c.get_mut.ensures.value ∙ ap option_copied_mut c.in-Some.is in
    set_same_waits c.self.inside.apps c.self.inside.threads c.self.inside.store.items c.self.inside.store.next c.self.inside.clock c.self.inside.bridged c.args.thread a a is refl c.self.invariant

pub invariant_of-self-2 : goal.invariant_of-self-2
invariant_of-self-2 c =
    let a : Thread = c.in-Some.waiter.now in
    let b : Thread = record { app = a.app; activity = activity.Waiting c.in-Running.start (new_wait wait_on.Any c.args.deadline) } in
    let is : slice_get c.self.inside.threads c.args.thread ≡ Some a = sym c.get_mut.ensures.value ∙ ap option_copied_mut c.in-Some.is in
    set_same_waits c.self.inside.apps c.self.inside.threads c.self.inside.store.items c.self.inside.store.next c.self.inside.clock c.self.inside.bridged c.args.thread a b is (sym (ap activity_names c.in-Running.is)) c.self.invariant
