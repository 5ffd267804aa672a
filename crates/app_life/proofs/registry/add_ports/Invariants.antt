use Rattle.std.proofs.Common.{◌≡◌, ℕ, List, drop}
use Rattle.std.specs.Option.{option_or}
use Rattle.app_life.specs.Places.{place_at, place_in}
use Rattle.app_life.proofs.registry.add_ports.Given as goal

abbrev pub invariant-loop-port : goal.invariant-loop-port
invariant-loop-port l = (path : List ℕ) → option_or (place_at l.starts path) (place_in path l.app.0 (drop l.port-index l.ports)) ≡ option_or (place_at l.initial.starts path) (place_in path l.app.0 l.ports)
