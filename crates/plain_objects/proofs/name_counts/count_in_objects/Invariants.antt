use Rattle.std.proofs.Common.{◌≡◌, length, take}
use Rattle.std.specs.List.{flat_map}
use Rattle.kernel_types.specs.Names.{object_names}
use Rattle.plain_objects.proofs.name_counts.count_in_objects.Given as goal

abbrev pub invariant-loop-object : goal.invariant-loop-object
invariant-loop-object l = l.count ≡ length (flat_map object_names (take l.object-index l.objects))
