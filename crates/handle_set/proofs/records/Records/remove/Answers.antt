use Rattle.std.proofs.Common.{◌∙◌, ◌<◌, ◌-◌, ◌++◌, length, take, drop, ap, arith}
use Rattle.std.specs.List.{remove}
use Rattle.handle_set.specs.Slots.{in_order}
use Rattle.handle_set.proofs.Ordering.{moved_order, removed_records}
use Rattle.handle_set.proofs.records.Records.remove.Goals as goal

pub invariant_of-self : goal.invariant_of-self
invariant_of-self c = rw c.move_last.ensures (moved_order c.self.inside.rows.items c.self.inside.order c.self.inside.len c.self.invariant c.args.at (c.self.inside.len - 1) (omega arith))

pub returns : goal.returns
returns c =
    let within : c.args.at < length (in_order c.self.inside.rows.items (take c.self.inside.len c.self.inside.order)) = rw c.self.view_is c.requires in
    ap (λ first. in_order c.self.inside.rows.items (take (c.self.inside.len - 1) (first ++ drop c.self.inside.len c.self.inside.order))) c.move_last.ensures
    ∙ removed_records c.self.inside.rows.items c.self.inside.order c.self.inside.len c.self.invariant c.args.at within
    ∙ ap (λ records. remove records c.args.at) c.self.view_is
