use Rattle.std.proofs.Common.{◌≡◌, map, take}
use Rattle.kernel_types.specs.Opening.{opening_client}
use Rattle.ns_bridge.proofs.clients.opening_clients.Given as goal

abbrev pub invariant-loop-client : goal.invariant-loop-client
invariant-loop-client l = l.states ≡ map opening_client (take l._client-index l.clients)
