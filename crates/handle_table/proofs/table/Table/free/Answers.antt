use Rattle.std.proofs.Common.{arith}
use Rattle.handle_table.proofs.Tables.{len_le}
use Rattle.handle_table.proofs.table.Table.free.Goals as goal

pub overflow_sub-result : goal.overflow_sub-result
overflow_sub-result c = len_le _ _ _ c.self.invariant

pub returns : goal.returns
returns c =
    let most = len_le _ _ _ c.self.invariant in
    let counted = c.self.invariant.counted in
    rw (← c.self.view_is) (omega arith)
