use Rattle.std.proofs.Common.{◌≡◌, refl, sym, ◌∙◌, ap, Some}
use Rattle.std.specs.Prelude.{slice_get}
use Rattle.std.specs.Option.{option_copied_mut}
use Rattle.counted_core.proofs.Roots.{same_roots}
use Rattle.counted_core.proofs.counts.CountedCore.set_last.Goals as goal

pub invariant_of-self-2 : goal.invariant_of-self-2
invariant_of-self-2 c =
    let a = c.in-Some.state.now in
    let is : slice_get c.self.inside.apps c.args.app ≡ Some a = sym c.get_mut.ensures.value ∙ ap option_copied_mut c.in-Some.is in
    rw c.set_last.ensures (record {
      counted = same_roots c.self.inside.apps c.self.inside.threads c.self.inside.store.items c.self.inside.store.next c.self.inside.clock c.self.inside.bridged c.args.app a
          (record a { last = Some c.args.handle }) is refl c.self.invariant.counted;
      waitable = c.self.invariant.waitable;
    })
