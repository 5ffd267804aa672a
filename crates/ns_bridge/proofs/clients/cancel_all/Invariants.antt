use Rattle.std.proofs.Common.{◌≡◌, ◌++◌, map, take, drop}
use Rattle.kernel_types.specs.Clients.{client_cancelled, client_changed}
use Rattle.ns_bridge.proofs.clients.cancel_all.Given as goal

abbrev pub invariant-loop-client : goal.invariant-loop-client
invariant-loop-client l = l.clients ≡ map (client_changed client_cancelled) (take l.client l.initial.clients) ++ drop l.client l.initial.clients
