use Rattle.handle_table.proofs.Tables.{next_answer}
use Rattle.handle_table.proofs.table.Table.next_after.Goals as goal

pub returns : goal.returns
returns c = rw (← c.self.view_is) (next_answer _ _ _ c.self.invariant c.args.after c.next_used.result c.next_used.ensures.some c.next_used.ensures.none)
