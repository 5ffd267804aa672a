use Rattle.std.proofs.Common.{◌≡◌, map, length}
use Rattle.scene_lines.specs.Reading.{with_turns}
use Rattle.scene_lines.proofs.turn_lines.with_turns.Given as goal

abbrev pub invariant-loop-rest : goal.invariant-loop-rest
invariant-loop-rest l = with_turns l.turns (map (λ word. word.now) l.rest) ≡ with_turns l.fn.turns (map (λ word. word.now) l.words)

abbrev pub decreases-loop-rest : goal.decreases-loop-rest
decreases-loop-rest l = length l.rest
