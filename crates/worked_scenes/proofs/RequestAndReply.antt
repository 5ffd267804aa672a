-- A client sends a request and waits; the server reads it and answers.
use Rattle.std.specs.Prelude.{◌≡◌, [], ◌∷◌, refl, codes}
use Rattle.kernel_values.specs.declared.call.Timeout.TheVariants as timeout
use Rattle.kernel_values.specs.declared.call.Call.TheVariants as call
use Rattle.kernel_values.specs.declared.reply.Reply.TheVariants as reply
use Rattle.kernel_values.specs.declared.reply.Answer.TheVariants as answer
use Rattle.kernel_values.specs.SceneLaw.{SceneValue}
use Rattle.kernel_types.specs.OnLiterals.{kernel_on_literals}
use Rattle.kernel_types.specs.Serial.{serial_run}
use Rattle.worked_scenes.specs.Scenes.{scene_of, app, plain_manifest, line}
use Rattle.worked_scenes.specs.Printouts.{told}
use Rattle.worked_scenes.specs.Printouts.Shown.{Called, Resumed}

abbrev scene : SceneValue
scene = scene_of (
    app (codes "server") (plain_manifest 1)
    (
    (
    line (call.PortCreate (codes "svc") 2 16 (record { 0 = 1 })) [] (0 ∷ []) ∷
    line (call.Wait 4294967295 timeout.Forever) ((0, 0) ∷ []) [] ∷
    line (call.Accept 4294967295) ((0, 0) ∷ []) (1 ∷ []) ∷
    line (call.Wait 4294967295 timeout.Forever) ((0, 1) ∷ []) [] ∷
    line (call.Get 4294967295) ((0, 1) ∷ []) (2 ∷ []) ∷
    line (call.Read 4294967295 4294967295 0 16 0) ((0, 1) ∷ (1, 2) ∷ []) [] ∷
    line (call.Put 4294967295 4294967295) ((0, 1) ∷ (1, 2) ∷ []) [] ∷
    line (call.Send 4294967295 (codes "pong") []) ((0, 1) ∷ []) [] ∷
    line (call.Wait 4294967295 timeout.Forever) ((0, 1) ∷ []) [] ∷
    line (call.Close 4294967295) ((0, 1) ∷ []) [] ∷ []) ∷ []) ∷
    app (codes "client") (plain_manifest 2)
    (
    (
    line (call.Connect (codes "svc") (record { 0 = 1 })) [] (0 ∷ []) ∷
    line (call.Send 4294967295 (codes "ping") []) ((0, 0) ∷ []) [] ∷
    line (call.Wait 4294967295 timeout.Forever) ((0, 0) ∷ []) [] ∷
    line (call.Get 4294967295) ((0, 0) ∷ []) (1 ∷ []) ∷
    line (call.Read 4294967295 4294967295 0 16 0) ((0, 0) ∷ (1, 1) ∷ []) [] ∷
    line (call.Put 4294967295 4294967295) ((0, 0) ∷ (1, 1) ∷ []) [] ∷
    line (call.Close 4294967295) ((0, 0) ∷ []) [] ∷ []) ∷ []) ∷ [])

history : told (serial_run scene) ≡ record {
  entries = (
      Called 0 (call.PortCreate (codes "svc") 2 16 (record { 0 = 1 })) (answer.Gives (reply.Handle 0)) ∷
      Called 1 (call.Connect (codes "svc") (record { 0 = 1 })) answer.Waits ∷
      Called 0 (call.Wait 0 timeout.Forever) (answer.Gives (reply.Event 0 (record { 0 = 1 }) 0)) ∷
      Called 0 (call.Accept 0) (answer.Gives (reply.Accepted 1 2)) ∷
      Resumed 1 (answer.Gives (reply.Handle 0)) ∷
      Called 0 (call.Wait 1 timeout.Forever) answer.Waits ∷
      Called 1 (call.Send 0 (codes "ping") []) (answer.Gives (reply.Count 4)) ∷
      Resumed 0 (answer.Gives (reply.Event 1 (record { 0 = 8 }) 0)) ∷
      Called 1 (call.Wait 0 timeout.Forever) answer.Waits ∷
      Called 0 (call.Get 1) (answer.Gives (reply.Message 1 4 0)) ∷
      Called 0 (call.Read 1 1 0 16 0) (answer.Gives (reply.Bytes (codes "ping") [])) ∷
      Called 0 (call.Put 1 1) (answer.Gives reply.Done) ∷
      Called 0 (call.Send 1 (codes "pong") []) (answer.Gives (reply.Count 4)) ∷
      Resumed 1 (answer.Gives (reply.Event 0 (record { 0 = 8 }) 0)) ∷
      Called 0 (call.Wait 1 timeout.Forever) answer.Waits ∷
      Called 1 (call.Get 0) (answer.Gives (reply.Message 1 4 0)) ∷
      Called 1 (call.Read 0 1 0 16 0) (answer.Gives (reply.Bytes (codes "pong") [])) ∷
      Called 1 (call.Put 0 1) (answer.Gives reply.Done) ∷
      Called 1 (call.Close 0) (answer.Gives reply.Done) ∷
      Resumed 0 (answer.Gives (reply.Event 1 (record { 0 = 4 }) 0)) ∷
      Called 1 (call.Finish) (answer.Gives reply.Done) ∷
      Called 0 (call.Close 1) (answer.Gives reply.Done) ∷
      Called 0 (call.Finish) (answer.Gives reply.Done) ∷ []);
  facts = record { clock = 0; objects = 0; names = 0 };
}
unfolding kernel_on_literals
history = refl
