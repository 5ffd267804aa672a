use Rattle.std.proofs.Common.{sym, ◌∙◌, ap}
use Rattle.std.specs.Option.{option_copied_mut}
use Rattle.kernel_types.specs.Objects.{on_end}
use Rattle.count_laws.specs.Dropping.{cut_from}
use Rattle.counted_core.proofs.Loans.{lent, lent_none}
use Rattle.counted_core.proofs.sweep.cut_peer.Goals as goal

pub returns-in_default-get_mut-clause-items : goal.returns-in_default-get_mut-clause-items
returns-in_default-get_mut-clause-items c =
    lent_none (on_end (cut_from c.args.x)) c.args.store.now.items c.key_of.result.serial c.in-Some.peer c.args.peer c.in-Some.is c.key_of.ensures
    (sym c.get_mut.ensures.value ∙ ap option_copied_mut c.in_default-get_mut.is)

pub returns-clause-items : goal.returns-clause-items
returns-clause-items c =
    lent (on_end (cut_from c.args.x)) c.args.store.now.items c.args.store.now.next c.key_of.result.serial c.in-Some.peer c.args.peer c.cut.new.body c.in-Some-get_mut.body.now c.sound.ensures c.in-Some.is c.key_of.ensures c.cut.ensures
    (sym c.get_mut.ensures.value ∙ ap option_copied_mut c.in-Some-get_mut.is)
