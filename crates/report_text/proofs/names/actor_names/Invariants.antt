-- The actors in front of the place are named.
use Rattle.std.proofs.Common.{◌≡◌, ◌++◌, map, take}
use Rattle.std.specs.List.{flat_map}
use Rattle.report_text.specs.Names.{thread_names}
use Rattle.report_text.proofs.names.actor_names.Given as goal

abbrev pub invariant-loop-app : goal.invariant-loop-app
invariant-loop-app l = l.names ≡ flat_map thread_names (take l.app-index l.apps)

abbrev pub invariant-loop-client : goal.invariant-loop-client
invariant-loop-client l = l.names ≡ flat_map thread_names l.scene.apps ++ map (λ client. client.name) (take l.client-index l.clients)
