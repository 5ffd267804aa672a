use Rattle.std.proofs.Common.{[], refl}
use Rattle.kernel_values.specs.declared.state.Body.TheVariants as body
use Rattle.counted_core.proofs.Installs.{makes}
use Rattle.counted_core.proofs.counts.CountedCore.make_set.Goals as goal

pub invariant_of-self-2 : goal.invariant_of-self-2
invariant_of-self-2 c =
    let r = makes c.self.inside.apps c.self.inside.threads c.self.inside.store.items c.self.inside.store.next c.self.inside.clock c.self.inside.bridged c.args.app (body.Set (record { members = [] })) refl c.sound.ensures c.in_ok-put_installed.ensures.names c.self.invariant in
    rw (c.in_ok-put_installed.ensures.apps, c.in_ok-put_installed.ensures.items, c.in_ok-put_installed.ensures.next, c.new-members.ensures) r.exact

pub returns-clause-made : goal.returns-clause-made
returns-clause-made c =
    let r = makes c.self.inside.apps c.self.inside.threads c.self.inside.store.items c.self.inside.store.next c.self.inside.clock c.self.inside.bridged c.args.app (body.Set (record { members = [] })) refl c.sound.ensures c.in_ok-put_installed.ensures.names c.self.invariant in
    rw (← c.self.view_is, c.in_ok-put_installed.ensures.apps, c.in_ok-put_installed.ensures.items, c.in_ok-put_installed.ensures.next, c.new-members.ensures, r.objects) refl
