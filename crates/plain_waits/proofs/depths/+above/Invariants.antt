use Rattle.std.proofs.Common.{◌≡◌, ◌≤◌, ◌+◌, ◌*◌, max, map, drop}
use Rattle.std.specs.List.{filter}
use Rattle.kernel_types.specs.Sets.{greatest, depth_above}
use Rattle.plain_objects.specs.Predicates.{holds_member}
use Rattle.plain_waits.proofs.depths.+above.Given as goal

abbrev pub decreases-depth_above : goal.decreases-depth_above
decreases-depth_above l = 2 * l.limit

abbrev pub decreases-greatest_above : goal.decreases-greatest_above
decreases-greatest_above l = 2 * l.limit + 1

abbrev pub invariant-greatest_above-loop-object : goal.invariant-greatest_above-loop-object
invariant-greatest_above-loop-object l =
    (max l.most (greatest (map (depth_above l.limit l.objects) (map (λ object. object.id) (filter (holds_member l.id) (drop l.object-index l.objects))))) ≡ greatest (map (depth_above l.limit l.objects) (map (λ object. object.id) (filter (holds_member l.id) l.objects))))
    × (l.most ≤ l.limit)
