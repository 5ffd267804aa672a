use Rattle.std.proofs.Common.{refl}
use Rattle.handle_table.proofs.Tables.{empty_is, empty_table}
use Rattle.handle_table.proofs.table.Table.new.Goals as goal

pub invariant_of-result : goal.invariant_of-result
invariant_of-result c = empty_table _ refl

pub returns : goal.returns
returns c = empty_is _
