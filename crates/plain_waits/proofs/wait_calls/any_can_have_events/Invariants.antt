use Rattle.std.specs.List.{list_any}
use Rattle.kernel_types.specs.Waits.{can_have_events}
use Rattle.std.proofs.Common.{drop, ◌≡◌}
use Rattle.plain_waits.proofs.wait_calls.any_can_have_events.Given as goal

abbrev pub invariant-loop-entry : goal.invariant-loop-entry
invariant-loop-entry l = list_any (can_have_events l.objects) (drop l.entry-index l.table) ≡ list_any (can_have_events l.objects) l.table
