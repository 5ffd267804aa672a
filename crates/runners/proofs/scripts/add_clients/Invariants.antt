use Rattle.std.proofs.Common.{◌≡◌, ◌++◌, take, map}
use Rattle.runners.proofs.scripts.add_clients.Given as goal

abbrev pub invariant-loop-client : goal.invariant-loop-client
invariant-loop-client l = l.scripts ≡ l.initial.scripts ++ map (λ client. client.script) (take l.client-index l.clients)
