use Rattle.std.proofs.Common.{sym, ◌∙◌}
use Rattle.object_store.proofs.Changes.{held_listed}
use Rattle.object_store.proofs.Stock.{found_here, none_here}
use Rattle.object_store.proofs.store.Store.kept.Goals as goal

pub returns-in-Some : goal.returns-in-Some
returns-in-Some g c =
    rw (← c.self.view_is) (c.get.ensures ∙ found_here _ _ _ _ c.self.invariant.stock.slots c.in-Some.ensures.found ∙ sym (held_listed _ _ _ c.self.invariant.stock.slots))

pub returns-in-None : goal.returns-in-None
returns-in-None g c =
    rw (← c.self.view_is) (sym (held_listed _ _ _ c.self.invariant.stock.slots ∙ none_here c.self.inside.slab _ c.in-None.ensures.absent))
