use Rattle.std.proofs.Common.{ap, ◌∙◌}
use Rattle.std.specs.Option.{is_some}
use Rattle.object_store.specs.Stock.{held_at}
use Rattle.counted_core.proofs.Entries.{there_held}
use Rattle.counted_core.proofs.counts.CountedCore.is_there.Goals as goal

pub returns : goal.returns
returns c =
    let items = c.self.inside.store.items in
    rw (← c.self.view_is) (c.lives.ensures ∙ (ap (λ n. is_some (held_at items n)) c.key_of.ensures ∙ there_held items c.args.id))
