use Rattle.std.proofs.Common.{refl, sym, ◌∙◌, ap, Some}
use Rattle.std.specs.Option.{option_copied_mut}
use Rattle.kernel_types.specs.Objects.{on_end}
use Rattle.counted_core.specs.EndChanges.{end_after}
use Rattle.counted_core.proofs.Loans.{lent, lent_none}
use Rattle.counted_core.proofs.ends.change_in.Goals as goal

pub returns-in_default-clause-items : goal.returns-in_default-clause-items
returns-in_default-clause-items c =
    lent_none (on_end (end_after c.args.change)) c.args.store.now.items c.key_of.result.serial c.args.id (Some c.args.id) refl c.key_of.ensures (sym c.get_mut.ensures.value ∙ ap option_copied_mut c.in_default.is)

pub returns-clause-items : goal.returns-clause-items
returns-clause-items c =
    lent (on_end (end_after c.args.change)) c.args.store.now.items c.args.store.now.next c.key_of.result.serial c.args.id (Some c.args.id) c.change_body.new.body c.in-Some.body.now c.sound.ensures refl c.key_of.ensures c.change_body.ensures
    (sym c.get_mut.ensures.value ∙ ap option_copied_mut c.in-Some.is)
