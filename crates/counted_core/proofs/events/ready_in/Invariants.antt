use Rattle.std.proofs.Common.{◌≡◌, drop}
use Rattle.std.specs.List.{find}
use Rattle.kernel_types.specs.Events.{events_of, is_ready_member}
use Rattle.counted_core.specs.Held.{objects_of}
use Rattle.counted_core.proofs.events.ready_in.Given as goal

abbrev pub invariant-loop-member : goal.invariant-loop-member
invariant-loop-member l = find (is_ready_member (events_of (objects_of l.store.items))) (drop l.member-index l.members) ≡ find (is_ready_member (events_of (objects_of l.store.items))) l.members
