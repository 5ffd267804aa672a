use Rattle.std.proofs.Common.{◌≡◌, ◌++◌, take, vec_capacity}
use Rattle.std.specs.List.{flat_map}
use Rattle.kernel_types.specs.Names.{object_names}
use Rattle.plain_objects.proofs.names.add_names_of_objects.Given as goal

abbrev pub invariant-loop-object : goal.invariant-loop-object
invariant-loop-object l = (l.names.items ≡ l.initial.names.items ++ flat_map object_names (take l.object-index l.objects)) × (vec_capacity l.names ≡ vec_capacity l.initial.names)
