use Rattle.std.proofs.Common.{◌≡◌, drop}
use Rattle.std.specs.List.{list_any}
use Rattle.ns_bridge.specs.Wholes.{goes_on}
use Rattle.ns_bridge.proofs.clients.any_goes_on.Given as goal

abbrev pub invariant-loop-client : goal.invariant-loop-client
invariant-loop-client l = list_any goes_on (drop l.client-index l.clients) ≡ list_any goes_on l.clients
