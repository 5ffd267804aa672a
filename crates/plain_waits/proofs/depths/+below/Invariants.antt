use Rattle.std.proofs.Common.{◌≡◌, ◌≤◌, ◌+◌, ◌*◌, max, map, drop}
use Rattle.kernel_types.specs.Sets.{greatest, depth_below}
use Rattle.plain_waits.proofs.depths.+below.Given as goal

abbrev pub decreases-depth_below : goal.decreases-depth_below
decreases-depth_below l = 2 * l.limit

abbrev pub decreases-greatest_below : goal.decreases-greatest_below
decreases-greatest_below l = 2 * l.limit + 1

abbrev pub invariant-greatest_below-loop-member : goal.invariant-greatest_below-loop-member
invariant-greatest_below-loop-member l =
    (max l.most (greatest (map (depth_below l.limit l.objects) (map (λ member. member.object) (drop l.member-index l.members)))) ≡ greatest (map (depth_below l.limit l.objects) (map (λ member. member.object) l.members)))
    × (l.most ≤ l.limit)
