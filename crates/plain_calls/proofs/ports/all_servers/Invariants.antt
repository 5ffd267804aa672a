use Rattle.std.proofs.Common.{◌≡◌, map, take}
use Rattle.plain_objects.specs.Predicates.{server_number}
use Rattle.plain_calls.proofs.ports.all_servers.Given as goal

abbrev pub invariant-loop-client : goal.invariant-loop-client
invariant-loop-client l = l.servers ≡ map (server_number l.first l.clients) (take l.client-index l.clients)
