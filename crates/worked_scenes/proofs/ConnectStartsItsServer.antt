-- A connect to a start port starts its application, and waits for the port.
use Rattle.std.specs.Prelude.{◌≡◌, [], ◌∷◌, true, false, refl, codes}
use Rattle.kernel_values.specs.declared.call.Timeout.TheVariants as timeout
use Rattle.kernel_values.specs.declared.call.Call.TheVariants as call
use Rattle.kernel_values.specs.declared.reply.Reply.TheVariants as reply
use Rattle.kernel_values.specs.declared.reply.Answer.TheVariants as answer
use Rattle.kernel_values.specs.SceneLaw.{SceneValue}
use Rattle.kernel_types.specs.OnLiterals.{kernel_on_literals}
use Rattle.kernel_types.specs.Serial.{serial_run}
use Rattle.worked_scenes.specs.Scenes.{scene_of, app, plain_manifest, line}
use Rattle.worked_scenes.specs.Printouts.{told}
use Rattle.worked_scenes.specs.Printouts.Shown.{Called, Resumed}

abbrev scene : SceneValue
scene = scene_of (
    app (codes "s") (record { uuid = 22685491133344522328127039013544875349; restart = false; deferred = true; ports = record { path = (codes "svc"); flags = (record { 0 = 1 }) } ∷ [] })
    (
    (
    line (call.PortCreate (codes "svc") 1 8 (record { 0 = 1 })) [] (0 ∷ []) ∷
    line (call.Wait 4294967295 timeout.Forever) ((0, 0) ∷ []) [] ∷
    line (call.Accept 4294967295) ((0, 0) ∷ []) [] ∷ []) ∷ []) ∷
    app (codes "t") (plain_manifest 2)
    (
    (
    line (call.Connect (codes "svc") (record { 0 = 0 })) [] [] ∷ []) ∷
    (
    line call.SetCreate [] [] ∷ []) ∷ []) ∷ [])

history : told (serial_run scene) ≡ record {
  entries = (
      Called 1 (call.Connect (codes "svc") (record { 0 = 0 })) answer.Waits ∷
      Called 2 (call.SetCreate) (answer.Gives (reply.Handle 1)) ∷
      Called 0 (call.PortCreate (codes "svc") 1 8 (record { 0 = 1 })) (answer.Gives (reply.Handle 0)) ∷
      Called 2 (call.Finish) (answer.Gives reply.Done) ∷
      Called 0 (call.Wait 0 timeout.Forever) (answer.Gives (reply.Event 0 (record { 0 = 1 }) 0)) ∷
      Called 0 (call.Accept 0) (answer.Gives (reply.Accepted 1 2)) ∷
      Resumed 1 (answer.Gives (reply.Handle 0)) ∷
      Called 0 (call.Finish) (answer.Gives reply.Done) ∷
      Called 1 (call.Finish) (answer.Gives reply.Done) ∷ []);
  facts = record { clock = 0; objects = 0; names = 0 };
}
unfolding kernel_on_literals
history = refl
