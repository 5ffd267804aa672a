use Rattle.object_store.proofs.Rising.{absent_removed, removed, rises_removed}
use Rattle.object_store.proofs.order.Order.remove.Goals as goal

pub invariant_of-self : goal.invariant_of-self
invariant_of-self c = rw c.remove.ensures.items (rises_removed _ c.self.invariant _ _ (rw (← c.self.view_is) at c.in-Ok.ensures.found))

pub returns-in-Ok-clause-entries : goal.returns-in-Ok-clause-entries
returns-in-Ok-clause-entries c = rw (← c.self.view_is, c.remove.ensures.items) (removed _ c.self.invariant _ _ (rw (← c.self.view_is) at c.in-Ok.ensures.found))

pub returns-in_default-clause-entries : goal.returns-in_default-clause-entries
returns-in_default-clause-entries c = absent_removed _ _ c.in_default.ensures.absent
