use Rattle.std.proofs.Common.{◌≡◌, length}
use Rattle.script_lines.specs.Texts.{without_word}
use Rattle.script_lines.proofs.texts.without_word.Given as goal

abbrev pub invariant-loop-rest : goal.invariant-loop-rest
invariant-loop-rest l = without_word l.rest ≡ without_word l.bytes

abbrev pub decreases-loop-rest : goal.decreases-loop-rest
decreases-loop-rest l = length l.rest
