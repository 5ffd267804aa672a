use Rattle.handle_set.proofs.Opening.{none_settled}
use Rattle.handle_set.proofs.sets.Sets.new.Goals as goal

pub invariant_of-result : goal.invariant_of-result
invariant_of-result c = rw c.new.ensures.items (none_settled, tt, λ k s at. absurd (cc))
