-- proofs/connections/place_of/Invariants.antt
use Rattle.std.proofs.Common.{◌+◌, drop, ◌≡◌}
use Rattle.kernel_types.specs.Drains.{connection_place}
use Rattle.ns_driver.proofs.connections.place_of.Given as goal

abbrev pub invariant-loop-at : goal.invariant-loop-at
invariant-loop-at l = l.at + connection_place (drop l.at l.connections) l.address ≡ connection_place l.connections l.address
