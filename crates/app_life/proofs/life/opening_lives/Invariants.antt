use Rattle.std.proofs.Common.{◌≡◌, map, take}
use Rattle.app_life.specs.Inside.{opening_life}
use Rattle.app_life.proofs.life.opening_lives.Given as goal

abbrev pub invariant-loop-app : goal.invariant-loop-app
invariant-loop-app l = l.lives ≡ map opening_life (take l.app-index l.apps)
