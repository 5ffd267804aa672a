use Rattle.std.proofs.Common.{refl, sym, ◌∙◌, ap, Some}
use Rattle.std.specs.Option.{option_copied_mut}
use Rattle.kernel_types.specs.Objects.{on_set}
use Rattle.counted_core.specs.Members.{having}
use Rattle.counted_core.proofs.Loans.{lent, lent_none}
use Rattle.counted_core.proofs.members.put_members.Goals as goal

pub returns-in_default-clause-items : goal.returns-in_default-clause-items
returns-in_default-clause-items c =
    lent_none (on_set (having c.args.members)) c.args.store.now.items c.key_of.result.serial c.args.id (Some c.args.id) refl c.key_of.ensures (sym c.get_mut.ensures.value ∙ ap option_copied_mut c.in_default.is)

pub returns-clause-items : goal.returns-clause-items
returns-clause-items c =
    lent (on_set (having c.args.members)) c.args.store.now.items c.args.store.now.next c.key_of.result.serial c.args.id (Some c.args.id) c.put_list.new.body c.in-Some.body.now c.sound.ensures refl c.key_of.ensures c.put_list.ensures
    (sym c.get_mut.ensures.value ∙ ap option_copied_mut c.in-Some.is)
