use Rattle.std.proofs.Common.{arith}
use Rattle.handle_table.proofs.Tables.{len_le, rises}
use Rattle.handle_table.proofs.table.Table.sound.Goals as goal

pub returns-clause-order : goal.returns-clause-order
returns-clause-order c = rw (← c.self.view_is) (rises _ _ _ c.self.invariant)

pub returns-clause-size : goal.returns-clause-size
returns-clause-size c =
    let most = len_le _ _ _ c.self.invariant in
    let counted = c.self.invariant.counted in
    rw (← c.self.view_is) (omega arith)
