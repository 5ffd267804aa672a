use Rattle.std.proofs.Common.{◌≡◌, drop}
use Rattle.serde_json.specs.View.{items_view}
use Rattle.app_manifest.specs.Manifests.{ports_in}
use Rattle.app_manifest.proofs.PortsRead.{behind}
use Rattle.app_manifest.proofs.ports.ports_of.Given as goal

abbrev pub invariant-loop-number : goal.invariant-loop-number
invariant-loop-number l = behind l.ports (ports_in l.number (items_view (drop l.number l.values))) ≡ ports_in 0 (items_view l.values)
