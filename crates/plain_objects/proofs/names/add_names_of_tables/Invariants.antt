use Rattle.std.proofs.Common.{◌≡◌, ◌++◌, take, vec_capacity}
use Rattle.std.specs.List.{flat_map}
use Rattle.kernel_types.specs.Names.{table_names}
use Rattle.plain_objects.proofs.names.add_names_of_tables.Given as goal

abbrev pub invariant-loop-app : goal.invariant-loop-app
invariant-loop-app l = (l.names.items ≡ l.initial.names.items ++ flat_map table_names (take l.app-index l.apps)) × (vec_capacity l.names ≡ vec_capacity l.initial.names)
