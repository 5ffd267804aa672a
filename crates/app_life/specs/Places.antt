-- How start ports are found: by a map from paths to places, which has the first port of each path. No public
-- clause cites this file.
use Rattle.std.specs.Prelude.{◌≡◌, ℕ, ◌+◌, List, [], ◌∷◌, Option, Some, None, if◌then◌else◌}
use Rattle.std.specs.Option.{option_or}
use Rattle.std.specs.Global.{Vec}
use Rattle.std.specs.BTreeMap.{BTreeMap, get_by}
use Rattle.std.specs.Ordering.{nat_cmp}
use Rattle.std.specs.Cmp.Lexicographic.{slice_cmp}
use Rattle.kernel_values.specs.declared.scene.Manifest.{Manifest}
use Rattle.kernel_values.specs.declared.scene.StartPort.{StartPort}
use Rattle.app_life.specs.declared.registry.StartPlace.{StartPlace}
use Rattle.kernel_types.specs.Applications.{is_start_port}

abbrev pub place_of : ℕ → StartPort → StartPlace
place_of app port = record { app = record { 0 = app }; flags = port.flags }

-- the place of one port, where it has the path
abbrev pub place_if : List ℕ → ℕ → StartPort → Option StartPlace
place_if path app port = (if is_start_port path port then Some (place_of app port) else None)

-- the place of the path among an application's start ports
abbrev pub place_in : List ℕ → ℕ → List StartPort → Option StartPlace
place_in path app [] = None
place_in path app (port ∷ ports) = option_or (place_if path app port) (place_in path app ports)

-- the place of the path among the start ports of applications, which are numbered from `app` on
abbrev pub place_from : List ℕ → ℕ → List Manifest → Option StartPlace
place_from path app [] = None
place_from path app (manifest ∷ manifests) = option_or (place_in path app manifest.ports) (place_from path (app + 1) manifests)

-- what the map has at a path
abbrev pub place_at : BTreeMap (Vec ℕ) StartPlace → List ℕ → Option StartPlace
place_at starts path = get_by (λ key. slice_cmp nat_cmp path key.items) starts

-- the map has each start port at its path
pub record IsIndex (starts : BTreeMap (Vec ℕ) StartPlace) (manifests : List Manifest) : Type 0 where
  pub places : (path : List ℕ) → place_at starts path ≡ place_from path 0 manifests
