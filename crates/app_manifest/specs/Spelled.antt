-- The manifest that a JSON text spells.
use Rattle.std.specs.Prelude.{◌≡◌, ℕ, List, length, Option, Some, option_and_then, Result, IsTrue, nat_le}
use Rattle.std.specs.List.{list_all}
use Rattle.std.specs.Result.{result_ok}
use Rattle.serde_json.specs.Read.{read}
use Rattle.kernel_values.specs.SceneLaw.{is_lawful_start_port}
use Rattle.kernel_values.specs.declared.scene.Manifest.{Manifest}
use Rattle.app_manifest.specs.Manifests.{manifest_in}

-- none where the text is no JSON, or its value no manifest
unfoldable pub manifest_text : List ℕ → Option Manifest
manifest_text text = option_and_then (λ value. result_ok (manifest_in value)) (read text)

-- at most 8 start ports, each with a lawful path and no flag but those with names
pub record HasLawfulPorts (manifest : Manifest) : Type 0 where
  pub few : IsTrue (nat_le (length manifest.ports) 8)
  pub lawful : IsTrue (list_all is_lawful_start_port manifest.ports)

abbrev pub ManifestsAreLawful : Type 0
ManifestsAreLawful = (text : List ℕ) (manifest : Manifest) → manifest_text text ≡ Some manifest → HasLawfulPorts manifest
