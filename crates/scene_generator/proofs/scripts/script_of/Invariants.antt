use Rattle.std.proofs.Common.{◌≡◌, ◌-◌}
use Rattle.scene_generator.specs.Generated.{number_after, script_of}
use Rattle.scene_generator.proofs.scripts.script_of.Given as goal

abbrev pub invariant-loop-at : goal.invariant-loop-at
invariant-loop-at l = (l.x ≡ number_after l.seed (l.at - 12)) × (l.script ≡ script_of l.seed l.at l.app)
