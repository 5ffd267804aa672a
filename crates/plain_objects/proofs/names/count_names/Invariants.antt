use Rattle.std.proofs.Common.{◌≡◌, take, ◌≤◌}
use Rattle.kernel_types.specs.Names.{names_of}
use Rattle.plain_objects.proofs.names.count_names.Given as goal

abbrev pub invariant-loop-name : goal.invariant-loop-name
invariant-loop-name l = (l.count ≡ names_of (take l.name-index l.names) l.object) × (l.count ≤ l.name-index)
