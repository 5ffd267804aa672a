use Rattle.std.proofs.Common.{◌≡◌, length, take}
use Rattle.std.specs.List.{flat_map}
use Rattle.kernel_types.specs.Names.{table_names}
use Rattle.plain_objects.proofs.name_counts.count_in_tables.Given as goal

abbrev pub invariant-loop-app : goal.invariant-loop-app
invariant-loop-app l = l.count ≡ length (flat_map table_names (take l.app-index l.apps))
