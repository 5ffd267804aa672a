use Rattle.std.proofs.Common.{◌≡◌, false, refl, sym, ◌∙◌, ap, subst, Option, Some}
use Rattle.std.specs.Prelude.{slice_get}
use Rattle.std.specs.Option.{option_copied_mut}
use Rattle.kernel_values.specs.declared.state.Application.{Application}
use Rattle.kernel_types.specs.Tables.{is_full, table_in}
use Rattle.counted_core.proofs.Handing.{hands, not_full}
use Rattle.counted_core.proofs.counts.CountedCore.hand_out.Goals as goal

pub invariant_of-self-2 : goal.invariant_of-self-2
invariant_of-self-2 c =
    let i = c.self.inside in
    let a = c.in-Some.state.now in
    let is : slice_get i.apps c.args.app ≡ Some a = sym c.get_mut.ensures.value ∙ ap option_copied_mut c.in-Some.is in
    let there = rw (← c.self.view_is) at c.requires.there in
    let r = hands i.apps i.threads i.store.items i.store.next i.clock i.bridged c.args.app c.args.object a is there c.sound.ensures c.self.invariant c.in_ok-reserve_names.ensures in
    rw (c.in-Ok.ensures.entry, c.name.ensures, c.key_of-key.ensures) r.exact

pub returns-clause-installed : goal.returns-clause-installed
returns-clause-installed c =
    let i = c.self.inside in
    let a = c.in-Some.state.now in
    let is : slice_get i.apps c.args.app ≡ Some a = sym c.get_mut.ensures.value ∙ ap option_copied_mut c.in-Some.is in
    let there = rw (← c.self.view_is) at c.requires.there in
    let r = hands i.apps i.threads i.store.items i.store.next i.clock i.bridged c.args.app c.args.object a is there c.sound.ensures c.self.invariant c.in_ok-reserve_names.ensures in
    rw (← c.self.view_is, c.in-Ok.ensures.entry, c.name.ensures, c.key_of-key.ensures, r.same, is) refl

pub invariant_of-self-in_default-install : goal.invariant_of-self-in_default-install
invariant_of-self-in_default-install c =
    let a = c.in-Some.state.now in
    let is : slice_get c.self.inside.apps c.args.app ≡ Some a = sym c.get_mut.ensures.value ∙ ap option_copied_mut c.in-Some.is in
    let room = rw (← c.self.view_is) at c.requires.room in
    absurd (not_full a.table (subst (λ (o : Option Application). is_full (table_in o) ≡ false) is room) c.in_default-install.ensures.full)

pub returns-in_default-install-clause-err : goal.returns-in_default-install-clause-err
returns-in_default-install-clause-err c =
    let a = c.in-Some.state.now in
    let is : slice_get c.self.inside.apps c.args.app ≡ Some a = sym c.get_mut.ensures.value ∙ ap option_copied_mut c.in-Some.is in
    let room = rw (← c.self.view_is) at c.requires.room in
    absurd (not_full a.table (subst (λ (o : Option Application). is_full (table_in o) ≡ false) is room) c.in_default-install.ensures.full)
