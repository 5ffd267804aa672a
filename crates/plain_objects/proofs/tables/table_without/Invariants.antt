use Rattle.std.proofs.Common.{◌≡◌, take}
use Rattle.kernel_types.specs.Tables.{without}
use Rattle.plain_objects.proofs.tables.table_without.Given as goal

abbrev pub invariant-loop-entry : goal.invariant-loop-entry
invariant-loop-entry l = l.others ≡ without (take l.entry-index l.table) l.handle
