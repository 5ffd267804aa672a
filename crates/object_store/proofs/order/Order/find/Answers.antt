use Rattle.object_store.proofs.Rising.{none_with}
use Rattle.object_store.proofs.order.Order.find.Goals as goal

pub returns-in-Err-clause-absent : goal.returns-in-Err-clause-absent
returns-in-Err-clause-absent c = λ slot. none_with _ _ slot c.in-Err.ensures.absent
