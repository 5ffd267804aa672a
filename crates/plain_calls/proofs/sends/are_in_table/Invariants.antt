use Rattle.std.specs.List.{list_all}
use Rattle.kernel_types.specs.Messages.{is_in_table}
use Rattle.std.proofs.Common.{drop, ◌≡◌}
use Rattle.plain_calls.proofs.sends.are_in_table.Given as goal

abbrev pub invariant-loop-handle : goal.invariant-loop-handle
invariant-loop-handle l = list_all (is_in_table l.table) (drop l.handle-index l.parts) ≡ list_all (is_in_table l.table) l.parts
