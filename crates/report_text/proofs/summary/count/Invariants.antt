-- The entries in front of the place are counted.
use Rattle.std.proofs.Common.{◌≡◌, ◌≤◌, take, count_by}
use Rattle.report_text.specs.Tallies.{is_of_kind}
use Rattle.report_text.proofs.summary.count.Given as goal

abbrev pub invariant-loop-entry : goal.invariant-loop-entry
invariant-loop-entry l = record {
  counted : l.count ≡ count_by (is_of_kind l.kind) (take l.entry-index l.entries);
  few : l.count ≤ l.entry-index;
}
