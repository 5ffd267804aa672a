use Rattle.std.proofs.Common.{◌≡◌, drop}
use Rattle.std.specs.List.{list_any}
use Rattle.ns_bridge.specs.Wholes.{runs}
use Rattle.ns_bridge.proofs.clients.any_runs.Given as goal

abbrev pub invariant-loop-client : goal.invariant-loop-client
invariant-loop-client l = list_any runs (drop l.client-index l.clients) ≡ list_any runs l.clients
