use Rattle.std.proofs.Common.{◌≡◌, map, take}
use Rattle.app_life.specs.Inside.{manifest_of}
use Rattle.app_life.specs.Places.{IsIndex}
use Rattle.app_life.proofs.registry.Registry.new.Given as goal

abbrev pub invariant-loop-app : goal.invariant-loop-app
invariant-loop-app l = record {
  listed : l.manifests ≡ map manifest_of (take l.app-index l.apps);
  index : IsIndex l.starts l.manifests;
}
