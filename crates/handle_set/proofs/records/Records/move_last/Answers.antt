use Rattle.std.proofs.Common.{◌∙◌, ◌++◌, take, drop, ap, arith}
use Rattle.handle_set.specs.Members.{moved_last}
use Rattle.handle_set.specs.Slots.{in_order}
use Rattle.handle_set.proofs.Ordering.{moved_order, moved_records}
use Rattle.handle_set.proofs.records.Records.move_last.Goals as goal

pub invariant_of-self : goal.invariant_of-self
invariant_of-self c = rw c.move_last.ensures (moved_order c.self.inside.rows.items c.self.inside.order c.self.inside.len c.self.invariant c.args.at c.self.inside.len (omega arith))

pub returns : goal.returns
returns c =
    ap (λ first. in_order c.self.inside.rows.items (take c.self.inside.len (first ++ drop c.self.inside.len c.self.inside.order))) c.move_last.ensures
    ∙ moved_records c.self.inside.rows.items c.self.inside.order c.self.inside.len c.self.invariant c.args.at
    ∙ ap (moved_last c.args.at) c.self.view_is
