use Rattle.std.proofs.Common.{◌≡◌, refl, sym, ◌∙◌, ap, Some}
use Rattle.std.specs.Option.{option_copied_mut}
use Rattle.kernel_types.specs.Sets.{with_member}
use Rattle.kernel_types.specs.Objects.{on_set}
use Rattle.object_store.specs.Stock.{value_at}
use Rattle.counted_core.proofs.Loans.{lent, lent_none, on_err, on_ok}
use Rattle.counted_core.proofs.Naming.{changed_same}
use Rattle.counted_core.proofs.members.push_member.Goals as goal

pub returns-in_default-clause-ok : goal.returns-in_default-clause-ok
returns-in_default-clause-ok c =
    lent_none (on_set (with_member c.args.member)) c.args.store.now.items c.key_of.result.serial c.args.id (Some c.args.id) refl c.key_of.ensures
    (sym c.get_mut.ensures.value ∙ ap option_copied_mut c.in_default.is)

pub returns-clause-ok : goal.returns-clause-ok
returns-clause-ok c =
    let value : value_at c.args.store.now.items c.key_of.result.serial ≡ Some c.in-Some.body.now = sym c.get_mut.ensures.value ∙ ap option_copied_mut c.in-Some.is in
    on_ok c.push_to.result _ _ c.push_to.ensures.ok
    (λ is. lent (on_set (with_member c.args.member)) c.args.store.now.items c.args.store.now.next c.key_of.result.serial c.args.id (Some c.args.id) c.push_to.new.body c.in-Some.body.now c.sound.ensures refl c.key_of.ensures is value)

pub returns-clause-err : goal.returns-clause-err
returns-clause-err c =
    let value : value_at c.args.store.now.items c.key_of.result.serial ≡ Some c.in-Some.body.now = sym c.get_mut.ensures.value ∙ ap option_copied_mut c.in-Some.is in
    on_err c.push_to.result _ _ c.push_to.ensures.err
    (λ is. lent (λ b. b) c.args.store.now.items c.args.store.now.next c.key_of.result.serial c.args.id (Some c.args.id) c.push_to.new.body c.in-Some.body.now c.sound.ensures refl c.key_of.ensures is value ∙ changed_same c.args.id c.args.store.now.items)
