use Rattle.std.proofs.Common.{◌≡◌, ◌≤◌, ◌+◌, ◌*◌, max, map, drop}
use Rattle.kernel_types.specs.Sets.{greatest, depth_below}
use Rattle.handle_set.specs.Chains.{objects_in, objects_of}
use Rattle.handle_set.proofs.adding.+below.Given as goal

abbrev pub decreases-depth_below : goal.decreases-depth_below
decreases-depth_below l = 2 * l.limit

abbrev pub decreases-greatest_below : goal.decreases-greatest_below
decreases-greatest_below l = 2 * l.limit + 1

abbrev pub invariant-greatest_below-loop-at : goal.invariant-greatest_below-loop-at
invariant-greatest_below-loop-at l =
    (max l.most (greatest (map (depth_below l.limit (objects_of l.sets)) (objects_in (drop l.at l.list)))) ≡ greatest (map (depth_below l.limit (objects_of l.sets)) (objects_in l.list)))
    × (l.most ≤ l.limit)
