-- No byte in front of the place ends a line.
use Rattle.std.proofs.Common.{◌≡◌, drop}
use Rattle.history_check.specs.Verdicts.{behind_first_line}
use Rattle.history_check.proofs.lines.first_line.Given as goal

abbrev pub invariant-loop-at : goal.invariant-loop-at
invariant-loop-at l = behind_first_line l.text ≡ behind_first_line (drop l.at l.text)
