-- The numbers of a lawful scene.
use Rattle.std.proofs.Common.{◌≡◌, ◌≤◌, ℕ, true, length, arith}
use Rattle.std.specs.Prelude.{nat_le, sum_by}
use Rattle.std.proofs.lemmas.Bool.Decides.{nat_tests}
use Rattle.kernel_values.specs.SceneLaw.{SceneValue, IsLawfulScene, commands_of, payload_of_script, scripts_of}

at_most : (n most : ℕ) → nat_le n most ≡ true → n ≤ most
at_most n most is = grind (arith, nat_tests)

pub lawful_limits : (scene : SceneValue) → IsLawfulScene scene
    → (length scene.apps ≤ 32) × (length scene.clients ≤ 8) × (commands_of scene ≤ 16384) × (sum_by payload_of_script (scripts_of scene) ≤ 16777216)
lawful_limits scene lawful = (
  at_most (length scene.apps) 32 lawful.few_apps,
  at_most (length scene.clients) 8 lawful.few_clients,
  at_most (commands_of scene) 16384 lawful.few_commands,
  at_most (sum_by payload_of_script (scripts_of scene)) 16777216 lawful.small_payload,
)
