use Rattle.std.proofs.Common.{sym, ◌∙◌, ap, Some}
use Rattle.std.specs.Option.{option_copied_mut}
use Rattle.kernel_types.specs.Objects.{on_port}
use Rattle.count_laws.specs.Dropping.{unlisted}
use Rattle.counted_core.proofs.Loans.{lent, lent_none}
use Rattle.counted_core.proofs.sweep.unlist_at.Goals as goal

pub returns-in_default-get_mut-clause-items : goal.returns-in_default-get_mut-clause-items
returns-in_default-get_mut-clause-items c =
    lent_none (on_port (unlisted (Some c.args.server))) c.args.store.now.items c.key_of.result.serial c.in-Some.port c.args.port c.in-Some.is c.key_of.ensures
    (sym c.get_mut.ensures.value ∙ ap option_copied_mut c.in_default-get_mut.is)

pub returns-clause-items : goal.returns-clause-items
returns-clause-items c =
    lent (on_port (unlisted (Some c.args.server))) c.args.store.now.items c.args.store.now.next c.key_of.result.serial c.in-Some.port c.args.port c.unlist.new.body c.in-Some-get_mut.body.now c.sound.ensures c.in-Some.is c.key_of.ensures c.unlist.ensures
    (sym c.get_mut.ensures.value ∙ ap option_copied_mut c.in-Some-get_mut.is)
