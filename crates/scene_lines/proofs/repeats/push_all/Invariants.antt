use Rattle.std.proofs.Common.{◌≡◌, ◌++◌, true, length}
use Rattle.std.specs.List.{list_all}
use Rattle.kernel_values.specs.Commands.{has_lawful_registers}
use Rattle.scene_lines.proofs.repeats.push_all.Given as goal

abbrev pub invariant-loop-rest : goal.invariant-loop-rest
invariant-loop-rest l = record { done : l.script ++ l.rest ≡ l.fn.script ++ l.body; lawful : list_all has_lawful_registers l.rest ≡ true }

abbrev pub decreases-loop-rest : goal.decreases-loop-rest
decreases-loop-rest l = length l.rest
