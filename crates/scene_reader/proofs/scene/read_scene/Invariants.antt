use Rattle.std.proofs.Common.{◌≡◌, ◌+◌, ◌≤◌, length}
use Rattle.script_lines.specs.Texts.{lines_of}
use Rattle.scene_lines.specs.Lawful.{IsLawfulReading}
use Rattle.scene_reader.specs.Whole.{lines_act, scene_of}
use Rattle.scene_reader.proofs.scene.read_scene.Given as goal

abbrev pub invariant-loop-rest : goal.invariant-loop-rest
invariant-loop-rest l = record { goes_on : lines_act (lines_of l.rest) l.reading l.at ≡ scene_of l.bytes; counted : l.at + length l.rest ≤ length l.bytes + 1; lawful : IsLawfulReading l.reading }

abbrev pub decreases-loop-rest : goal.decreases-loop-rest
decreases-loop-rest l = length l.rest
