use Rattle.std.proofs.Common.{◌≡◌, ◌++◌, map, take, vec_capacity}
use Rattle.kernel_types.specs.Names.{root}
use Rattle.plain_objects.proofs.names.add_bridge_names.Given as goal

abbrev pub invariant-loop-end : goal.invariant-loop-end
invariant-loop-end l = (l.names.items ≡ l.initial.names.items ++ map root (take l.end-index l.bridged)) × (vec_capacity l.names ≡ vec_capacity l.initial.names)
