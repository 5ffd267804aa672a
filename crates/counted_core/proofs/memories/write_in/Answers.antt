use Rattle.std.proofs.Common.{refl, sym, ◌∙◌, ap, Some}
use Rattle.std.specs.Option.{option_copied_mut}
use Rattle.kernel_types.specs.Memories.{written}
use Rattle.kernel_types.specs.Objects.{on_memory}
use Rattle.counted_core.proofs.Loans.{lent, lent_none}
use Rattle.counted_core.proofs.memories.write_in.Goals as goal

pub returns-in_default-clause-items : goal.returns-in_default-clause-items
returns-in_default-clause-items c =
    lent_none (on_memory (written c.args.offset c.args.new.now)) c.args.store.now.items c.key_of.result.serial c.args.id (Some c.args.id) refl c.key_of.ensures (sym c.get_mut.ensures.value ∙ ap option_copied_mut c.in_default.is)

pub returns-clause-items : goal.returns-clause-items
returns-clause-items c =
    lent (on_memory (written c.args.offset c.args.new.now)) c.args.store.now.items c.args.store.now.next c.key_of.result.serial c.args.id (Some c.args.id) c.write_to.new.body c.in-Some.body.now c.sound.ensures refl c.key_of.ensures c.write_to.ensures
    (sym c.get_mut.ensures.value ∙ ap option_copied_mut c.in-Some.is)
