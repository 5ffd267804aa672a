use Rattle.std.proofs.Common.{◌≡◌, ◌==◌, sym, ◌∙◌, ap, Some}
use Rattle.std.specs.Prelude.{slice_get}
use Rattle.std.specs.List.{position_or_len}
use Rattle.std.specs.Option.{option_copied_mut}
use Rattle.kernel_types.specs.Tables.{with_cookie}
use Rattle.counted_core.proofs.Roots.{cookie_names, same_roots}
use Rattle.counted_core.proofs.counts.CountedCore.set_cookie.Goals as goal

pub invariant_of-self-2 : goal.invariant_of-self-2
invariant_of-self-2 c =
    let a = c.in-Some.state.now in
    let is : slice_get c.self.inside.apps c.args.app ≡ Some a = sym c.get_mut.ensures.value ∙ ap option_copied_mut c.in-Some.is in
    rw c.set_cookie.ensures (record {
      counted = same_roots c.self.inside.apps c.self.inside.threads c.self.inside.store.items c.self.inside.store.next c.self.inside.clock c.self.inside.bridged c.args.app a
          (record a { table = with_cookie a.table c.args.handle c.args.cookie }) is
          (cookie_names a.table (position_or_len (λ entry. entry.handle == c.args.handle) a.table) c.args.cookie) c.self.invariant.counted;
      waitable = c.self.invariant.waitable;
    })
