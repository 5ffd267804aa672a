-- The calls in front of the place are counted, and the others are to come.
use Rattle.std.proofs.Common.{◌≡◌, ◌+◌, ◌≤◌, drop, length}
use Rattle.report_text.specs.OwnCalls.{calls_of}
use Rattle.report_text.proofs.actors.count_calls.Given as goal

abbrev pub invariant-loop-entry : goal.invariant-loop-entry
invariant-loop-entry l = record {
  counted : l.calls + length (calls_of l.actor (drop l.entry-index l.entries)) ≡ length (calls_of l.actor l.entries);
  few : l.calls ≤ l.entry-index;
}
