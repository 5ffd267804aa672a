use Rattle.std.proofs.Common.{◌≡◌, length}
use Rattle.std.specs.List.{list_any}
use Rattle.script_lines.specs.Texts.{lines_of}
use Rattle.scene_reader.specs.Whole.{closes}
use Rattle.scene_reader.proofs.scene.is_closed_in.Given as goal

abbrev pub invariant-loop-rest : goal.invariant-loop-rest
invariant-loop-rest l = list_any closes (lines_of l.rest) ≡ list_any closes (lines_of l.bytes)

abbrev pub decreases-loop-rest : goal.decreases-loop-rest
decreases-loop-rest l = length l.rest
