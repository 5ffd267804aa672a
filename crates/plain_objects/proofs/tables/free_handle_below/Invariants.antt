use Rattle.std.specs.List.{find, range_with_len}
use Rattle.kernel_types.specs.Tables.{is_free}
use Rattle.std.proofs.Common.{◌-◌, ◌≡◌}
use Rattle.plain_objects.proofs.tables.free_handle_below.Given as goal

abbrev pub invariant-loop-handle : goal.invariant-loop-handle
invariant-loop-handle l = find (is_free l.table) (range_with_len l.handle (l.limit - l.handle)) ≡ find (is_free l.table) (range_with_len 0 l.limit)
