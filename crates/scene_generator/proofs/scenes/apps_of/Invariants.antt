use Rattle.std.proofs.Common.{◌≡◌, map}
use Rattle.std.specs.List.{range_with_len}
use Rattle.scene_generator.specs.Generated.{app_of}
use Rattle.scene_generator.proofs.scenes.apps_of.Given as goal

abbrev pub invariant-loop-app : goal.invariant-loop-app
invariant-loop-app l = l.apps ≡ map (app_of l.seed l.count) (range_with_len 0 l.app)
