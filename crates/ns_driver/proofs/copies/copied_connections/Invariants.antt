-- proofs/copies/copied_connections/Invariants.antt
use Rattle.std.proofs.Common.{◌≡◌, take}
use Rattle.ns_driver.proofs.copies.copied_connections.Given as goal

abbrev pub invariant-loop-connection : goal.invariant-loop-connection
invariant-loop-connection l = l.copy ≡ take l.connection-index l.connection-items
