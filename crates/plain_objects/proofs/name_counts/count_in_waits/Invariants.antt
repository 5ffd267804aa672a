use Rattle.std.proofs.Common.{◌≡◌, length, take}
use Rattle.std.specs.List.{flat_map}
use Rattle.kernel_types.specs.Names.{wait_names}
use Rattle.plain_objects.proofs.name_counts.count_in_waits.Given as goal

abbrev pub invariant-loop-thread : goal.invariant-loop-thread
invariant-loop-thread l = l.count ≡ length (flat_map wait_names (take l.thread-index l.threads))
