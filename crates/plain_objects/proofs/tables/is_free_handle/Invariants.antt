use Rattle.kernel_types.specs.Tables.{is_free}
use Rattle.std.proofs.Common.{drop, ◌≡◌}
use Rattle.plain_objects.proofs.tables.is_free_handle.Given as goal

abbrev pub invariant-loop-entry : goal.invariant-loop-entry
invariant-loop-entry l = is_free (drop l.entry-index l.table) l.handle ≡ is_free l.table l.handle
