use Rattle.std.proofs.Common.{◌≡◌, length, take, ◌≤◌}
use Rattle.std.specs.List.{filter}
use Rattle.kernel_types.specs.Reach.{is_held}
use Rattle.plain_objects.proofs.reach.count_held.Given as goal

abbrev pub invariant-loop-name : goal.invariant-loop-name
invariant-loop-name l = (l.count ≡ length (filter is_held (take l.name-index l.names))) × (l.count ≤ l.name-index)
