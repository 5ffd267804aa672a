use Rattle.std.proofs.Common.{◌≡◌, take, map}
use Rattle.runners.specs.Places.{first_place}
use Rattle.runners.proofs.scripts.places_of.Given as goal

abbrev pub invariant-loop-script : goal.invariant-loop-script
invariant-loop-script l = l.places.items ≡ map first_place (take l.script-index l.scripts)
