use Rattle.std.proofs.Common.{◌≡◌, ◌++◌, map, take, vec_capacity}
use Rattle.kernel_types.specs.Names.{root}
use Rattle.plain_objects.proofs.names.add_table_names.Given as goal

abbrev pub invariant-loop-entry : goal.invariant-loop-entry
invariant-loop-entry l = (l.names.items ≡ l.initial.names.items ++ map (λ entry. root entry.object) (take l.entry-index l.entry-items)) × (vec_capacity l.names ≡ vec_capacity l.initial.names)
