use Rattle.std.proofs.Common.{◌≡◌, ◌∷◌, [], map}
use Rattle.handle_set.specs.Sets.{id_of}
use Rattle.wait_events.proofs.tests.fill.Given as goal

abbrev pub invariant-loop-label : goal.invariant-loop-label
invariant-loop-label l = map id_of l.sets.sets ≡ 0 ∷ []
