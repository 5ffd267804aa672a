use Rattle.std.proofs.Common.{◌≡◌, ◌++◌, map, take, vec_capacity}
use Rattle.kernel_types.specs.Names.{held_by}
use Rattle.plain_objects.proofs.names.add_all_held.Given as goal

abbrev pub invariant-loop-object : goal.invariant-loop-object
invariant-loop-object l = (l.names.items ≡ l.initial.names.items ++ map (held_by l.holder) (take l.object-index l.objects)) × (vec_capacity l.names ≡ vec_capacity l.initial.names)
