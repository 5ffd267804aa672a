use Rattle.std.proofs.Common.{◌≡◌, ◌++◌, map, take}
use Rattle.plain_objects.specs.Predicates.{server_object}
use Rattle.plain_calls.proofs.ports.add_servers.Given as goal

abbrev pub invariant-loop-client : goal.invariant-loop-client
invariant-loop-client l = l.objects ≡ l.initial.objects ++ map (server_object l.port l.first l.clients) (take l.client-index l.clients)
