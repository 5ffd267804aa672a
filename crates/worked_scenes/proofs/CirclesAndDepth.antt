-- A set is never in itself at any depth, and a chain of sets has at most 8.
use Rattle.std.specs.Prelude.{◌≡◌, [], ◌∷◌, refl, codes}
use Rattle.kernel_values.specs.declared.call.Call.TheVariants as call
use Rattle.kernel_values.specs.declared.reply.Reply.TheVariants as reply
use Rattle.kernel_values.specs.declared.reply.Answer.TheVariants as answer
use Rattle.kernel_values.specs.declared.errno.Errno.TheVariants as errno
use Rattle.kernel_values.specs.SceneLaw.{SceneValue}
use Rattle.kernel_types.specs.OnLiterals.{kernel_on_literals}
use Rattle.kernel_types.specs.Serial.{serial_run}
use Rattle.worked_scenes.specs.Scenes.{scene_of, app, plain_manifest, line}
use Rattle.worked_scenes.specs.Printouts.{told}
use Rattle.worked_scenes.specs.Printouts.Shown.{Called}

abbrev scene : SceneValue
scene = scene_of (
    app (codes "a") (plain_manifest 1)
    (
    (
    line call.SetCreate [] [] ∷
    line call.SetCreate [] [] ∷
    line call.SetCreate [] [] ∷
    line call.SetCreate [] [] ∷
    line call.SetCreate [] [] ∷
    line call.SetCreate [] [] ∷
    line call.SetCreate [] [] ∷
    line call.SetCreate [] [] ∷
    line call.SetCreate [] [] ∷
    line (call.SetAdd 0 1 (record { 0 = 31 }) 0) [] [] ∷
    line (call.SetAdd 1 2 (record { 0 = 31 }) 0) [] [] ∷
    line (call.SetAdd 2 3 (record { 0 = 31 }) 0) [] [] ∷
    line (call.SetAdd 3 0 (record { 0 = 31 }) 0) [] [] ∷
    line (call.SetAdd 0 0 (record { 0 = 31 }) 0) [] [] ∷
    line (call.SetAdd 3 4 (record { 0 = 31 }) 0) [] [] ∷
    line (call.SetAdd 4 5 (record { 0 = 31 }) 0) [] [] ∷
    line (call.SetAdd 5 6 (record { 0 = 31 }) 0) [] [] ∷
    line (call.SetAdd 6 7 (record { 0 = 31 }) 0) [] [] ∷
    line (call.SetAdd 7 8 (record { 0 = 31 }) 0) [] [] ∷ []) ∷ []) ∷ [])

history : told (serial_run scene) ≡ record {
  entries = (
      Called 0 (call.SetCreate) (answer.Gives (reply.Handle 0)) ∷
      Called 0 (call.SetCreate) (answer.Gives (reply.Handle 1)) ∷
      Called 0 (call.SetCreate) (answer.Gives (reply.Handle 2)) ∷
      Called 0 (call.SetCreate) (answer.Gives (reply.Handle 3)) ∷
      Called 0 (call.SetCreate) (answer.Gives (reply.Handle 4)) ∷
      Called 0 (call.SetCreate) (answer.Gives (reply.Handle 5)) ∷
      Called 0 (call.SetCreate) (answer.Gives (reply.Handle 6)) ∷
      Called 0 (call.SetCreate) (answer.Gives (reply.Handle 7)) ∷
      Called 0 (call.SetCreate) (answer.Gives (reply.Handle 8)) ∷
      Called 0 (call.SetAdd 0 1 (record { 0 = 31 }) 0) (answer.Gives reply.Done) ∷
      Called 0 (call.SetAdd 1 2 (record { 0 = 31 }) 0) (answer.Gives reply.Done) ∷
      Called 0 (call.SetAdd 2 3 (record { 0 = 31 }) 0) (answer.Gives reply.Done) ∷
      Called 0 (call.SetAdd 3 0 (record { 0 = 31 }) 0) (answer.Refuses errno.InvalidArgs) ∷
      Called 0 (call.SetAdd 0 0 (record { 0 = 31 }) 0) (answer.Refuses errno.InvalidArgs) ∷
      Called 0 (call.SetAdd 3 4 (record { 0 = 31 }) 0) (answer.Gives reply.Done) ∷
      Called 0 (call.SetAdd 4 5 (record { 0 = 31 }) 0) (answer.Gives reply.Done) ∷
      Called 0 (call.SetAdd 5 6 (record { 0 = 31 }) 0) (answer.Gives reply.Done) ∷
      Called 0 (call.SetAdd 6 7 (record { 0 = 31 }) 0) (answer.Gives reply.Done) ∷
      Called 0 (call.SetAdd 7 8 (record { 0 = 31 }) 0) (answer.Refuses errno.RecurseTooDeep) ∷
      Called 0 (call.Finish) (answer.Gives reply.Done) ∷ []);
  facts = record { clock = 0; objects = 0; names = 0 };
}
unfolding kernel_on_literals
history = refl
