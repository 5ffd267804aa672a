use Rattle.std.proofs.Common.{length}
use Rattle.script_lines.proofs.registers.+parts.Given as goal

abbrev pub decreases-parts : goal.decreases-parts
decreases-parts l = length l.words.now
