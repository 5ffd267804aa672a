use Rattle.std.proofs.Common.{◌≡◌, length}
use Rattle.script_lines.specs.Texts.{without_blanks}
use Rattle.script_lines.proofs.texts.without_blanks.Given as goal

abbrev pub invariant-loop-rest : goal.invariant-loop-rest
invariant-loop-rest l = without_blanks l.rest ≡ without_blanks l.bytes

abbrev pub decreases-loop-rest : goal.decreases-loop-rest
decreases-loop-rest l = length l.rest
