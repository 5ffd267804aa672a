use Rattle.std.proofs.Common.{◌≡◌, ◌++◌, take, vec_capacity}
use Rattle.std.specs.List.{flat_map}
use Rattle.kernel_types.specs.Names.{wait_names}
use Rattle.plain_objects.proofs.names.add_names_of_waits.Given as goal

abbrev pub invariant-loop-thread : goal.invariant-loop-thread
invariant-loop-thread l = (l.names.items ≡ l.initial.names.items ++ flat_map wait_names (take l.thread-index l.threads)) × (vec_capacity l.names ≡ vec_capacity l.initial.names)
