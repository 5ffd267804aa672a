use Rattle.std.proofs.Common.{is_some, sym, ap, ◌∙◌}
use Rattle.object_store.proofs.Changes.{held_listed}
use Rattle.object_store.proofs.Stock.{none_here, some_found}
use Rattle.object_store.proofs.store.Store.key_of.Goals as goal

pub returns-in-Some-clause-there : goal.returns-in-Some-clause-there
returns-in-Some-clause-there g c = rw (← c.self.view_is) (sym (some_found _ _ _ _ _ c.self.invariant.stock c.in-Some.ensures.found))

pub returns-in-None-clause-there : goal.returns-in-None-clause-there
returns-in-None-clause-there g c =
    rw (← c.self.view_is) (sym (ap is_some (held_listed _ _ _ c.self.invariant.stock.slots ∙ none_here c.self.inside.slab _ c.in-None.ensures.absent)))
