use Rattle.std.proofs.Common.{◌≡◌, drop}
use Rattle.std.specs.List.{list_any}
use Rattle.ns_bridge.specs.Acts.{state_moves}
use Rattle.ns_bridge.proofs.normal.NormalWorld.any_may_move.Given as goal

abbrev pub invariant-loop-client : goal.invariant-loop-client
invariant-loop-client l =
    list_any (state_moves l.clock l.self.memory l.self.driver) (drop l.client l.self.clients) ≡ list_any (state_moves l.clock l.self.memory l.self.driver) l.self.clients
