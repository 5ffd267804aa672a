use Rattle.std.specs.List.{find, filter}
use Rattle.kernel_types.specs.Reports.{has_events}
use Rattle.plain_objects.specs.Predicates.{is_later_entry}
use Rattle.std.proofs.Common.{drop, ◌≡◌}
use Rattle.plain_waits.proofs.reports.find_later.Given as goal

abbrev pub invariant-loop-entry : goal.invariant-loop-entry
invariant-loop-entry l = find (has_events l.objects) (filter (is_later_entry l.last) (drop l.entry-index l.table)) ≡ find (has_events l.objects) (filter (is_later_entry l.last) l.table)
