use Rattle.std.specs.List.{find}
use Rattle.kernel_types.specs.Events.{is_ready_member, events_of}
use Rattle.std.proofs.Common.{drop, ◌≡◌}
use Rattle.plain_waits.proofs.reports.find_ready_member.Given as goal

abbrev pub invariant-loop-member : goal.invariant-loop-member
invariant-loop-member l = find (is_ready_member (events_of l.objects)) (drop l.member-index l.members) ≡ find (is_ready_member (events_of l.objects)) l.members
