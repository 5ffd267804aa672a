use Rattle.std.proofs.Common.{◌≡◌, ◌≤◌, ◌+◌, ◌*◌, max, map, drop}
use Rattle.kernel_types.specs.Sets.{greatest, depth_above}
use Rattle.handle_set.specs.Chains.{objects_of}
use Rattle.handle_set.proofs.Depths.{holder_ids}
use Rattle.handle_set.proofs.adding.+above.Given as goal

abbrev pub decreases-depth_above : goal.decreases-depth_above
decreases-depth_above l = 3 * l.limit

abbrev pub decreases-depth_through : goal.decreases-depth_through
decreases-depth_through l = 3 * l.limit + 1

abbrev pub decreases-greatest_above : goal.decreases-greatest_above
decreases-greatest_above l = 3 * l.limit + 2

abbrev pub invariant-greatest_above-loop-place : goal.invariant-greatest_above-loop-place
invariant-greatest_above-loop-place l =
    (max l.most (greatest (map (depth_above l.limit (objects_of l.sets)) (holder_ids l.id (drop l.place l.sets)))) ≡ greatest (map (depth_above l.limit (objects_of l.sets)) (holder_ids l.id l.sets)))
    × (l.most ≤ l.limit)
