use Rattle.std.proofs.Common.{◌≡◌, ◌+◌, ◌*◌, drop}
use Rattle.std.specs.List.{list_any}
use Rattle.kernel_types.specs.Events.{events_within, is_ready_member}
use Rattle.counted_core.specs.Held.{objects_of}
use Rattle.counted_core.proofs.events.+ready.Given as goal

abbrev pub decreases-body_events : goal.decreases-body_events
decreases-body_events l = 3 * l.depth + 2

abbrev pub decreases-events_within : goal.decreases-events_within
decreases-events_within l = 3 * l.depth

abbrev pub decreases-has_ready_member : goal.decreases-has_ready_member
decreases-has_ready_member l = 3 * l.depth + 1

abbrev pub invariant-has_ready_member-loop-member : goal.invariant-has_ready_member-loop-member
invariant-has_ready_member-loop-member l =
    list_any (is_ready_member (events_within l.depth (objects_of l.store.items))) (drop l.member-index l.members) ≡ list_any (is_ready_member (events_within l.depth (objects_of l.store.items))) l.members
