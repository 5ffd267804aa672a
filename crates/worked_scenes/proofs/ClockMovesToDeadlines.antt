-- Where nothing can move, the clock goes to the least deadline, and that wait times out.
use Rattle.std.specs.Prelude.{◌≡◌, [], ◌∷◌, refl, codes}
use Rattle.kernel_values.specs.declared.call.Timeout.TheVariants as timeout
use Rattle.kernel_values.specs.declared.call.Call.TheVariants as call
use Rattle.kernel_values.specs.declared.reply.Reply.TheVariants as reply
use Rattle.kernel_values.specs.declared.reply.Answer.TheVariants as answer
use Rattle.kernel_values.specs.declared.errno.Errno.TheVariants as errno
use Rattle.kernel_values.specs.SceneLaw.{SceneValue}
use Rattle.kernel_types.specs.OnLiterals.{kernel_on_literals}
use Rattle.kernel_types.specs.Serial.{serial_run}
use Rattle.worked_scenes.specs.Scenes.{scene_of, app, plain_manifest, line}
use Rattle.worked_scenes.specs.Printouts.{told}
use Rattle.worked_scenes.specs.Printouts.Shown.{Called, Resumed, Idled}

abbrev scene : SceneValue
scene = scene_of (
    app (codes "a") (plain_manifest 1)
    (
    (
    line call.SetCreate [] (0 ∷ []) ∷
    line (call.Wait 4294967295 (timeout.Millis 5)) ((0, 0) ∷ []) [] ∷ []) ∷
    (
    line call.SetCreate [] (0 ∷ []) ∷
    line (call.Wait 4294967295 (timeout.Millis 9)) ((0, 0) ∷ []) [] ∷ []) ∷ []) ∷ [])

history : told (serial_run scene) ≡ record {
  entries = (
      Called 0 (call.SetCreate) (answer.Gives (reply.Handle 0)) ∷
      Called 1 (call.SetCreate) (answer.Gives (reply.Handle 1)) ∷
      Called 0 (call.Wait 0 (timeout.Millis 5)) answer.Waits ∷
      Called 1 (call.Wait 1 (timeout.Millis 9)) answer.Waits ∷
      Idled (answer.Clock 5) ∷
      Resumed 0 (answer.Refuses errno.TimedOut) ∷
      Called 0 (call.Finish) (answer.Gives reply.Done) ∷
      Idled (answer.Clock 9) ∷
      Resumed 1 (answer.Refuses errno.TimedOut) ∷
      Called 1 (call.Finish) (answer.Gives reply.Done) ∷ []);
  facts = record { clock = 9; objects = 0; names = 0 };
}
unfolding kernel_on_literals
history = refl
