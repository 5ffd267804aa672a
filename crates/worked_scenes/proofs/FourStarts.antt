-- An application that restarts on exit starts at most four times.
use Rattle.std.specs.Prelude.{◌≡◌, [], ◌∷◌, true, false, refl, codes}
use Rattle.kernel_values.specs.declared.call.Call.TheVariants as call
use Rattle.kernel_values.specs.declared.reply.Reply.TheVariants as reply
use Rattle.kernel_values.specs.declared.reply.Answer.TheVariants as answer
use Rattle.kernel_values.specs.SceneLaw.{SceneValue}
use Rattle.kernel_types.specs.OnLiterals.{kernel_on_literals}
use Rattle.kernel_types.specs.Serial.{serial_run}
use Rattle.worked_scenes.specs.Scenes.{scene_of, app, line}
use Rattle.worked_scenes.specs.Printouts.{told}
use Rattle.worked_scenes.specs.Printouts.Shown.{Called}

abbrev scene : SceneValue
scene = scene_of (
    app (codes "a") (record { uuid = 9; restart = true; deferred = false; ports = [] })
    (
    (
    line (call.Exit 7) [] [] ∷ []) ∷ []) ∷ [])

history : told (serial_run scene) ≡ record {
  entries = (
      Called 0 (call.Exit 7) (answer.Gives reply.Done) ∷
      Called 0 (call.Exit 7) (answer.Gives reply.Done) ∷
      Called 0 (call.Exit 7) (answer.Gives reply.Done) ∷
      Called 0 (call.Exit 7) (answer.Gives reply.Done) ∷ []);
  facts = record { clock = 0; objects = 0; names = 0 };
}
unfolding kernel_on_literals
history = refl
