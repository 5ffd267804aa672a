use Rattle.std.proofs.Common.{◌≡◌, drop}
use Rattle.std.specs.List.{list_all}
use Rattle.kernel_types.specs.Messages.{is_in_table}
use Rattle.kernel_types.specs.Tables.{table_of}
use Rattle.core_calls.proofs.sends.are_in_table.Given as goal

abbrev pub invariant-loop-handle : goal.invariant-loop-handle
invariant-loop-handle g l =
    list_all (is_in_table (table_of (g.C.CoreChanges.state l.core) l.app)) (drop l.handle-index l.parts) ≡ list_all (is_in_table (table_of (g.C.CoreChanges.state l.core) l.app)) l.parts
