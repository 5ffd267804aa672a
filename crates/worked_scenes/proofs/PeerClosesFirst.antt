-- Messages of an end that closed are still there at its peer, until they are read.
use Rattle.std.specs.Prelude.{◌≡◌, [], ◌∷◌, refl, codes}
use Rattle.kernel_values.specs.declared.call.Timeout.TheVariants as timeout
use Rattle.kernel_values.specs.declared.call.Call.TheVariants as call
use Rattle.kernel_values.specs.declared.reply.Reply.TheVariants as reply
use Rattle.kernel_values.specs.declared.reply.Answer.TheVariants as answer
use Rattle.kernel_values.specs.declared.errno.Errno.TheVariants as errno
use Rattle.kernel_values.specs.SceneLaw.{SceneValue}
use Rattle.kernel_types.specs.OnLiterals.{kernel_on_literals}
use Rattle.kernel_types.specs.Serial.{serial_run}
use Rattle.worked_scenes.specs.Scenes.{scene_of, app, plain_manifest, line}
use Rattle.worked_scenes.specs.Printouts.{told}
use Rattle.worked_scenes.specs.Printouts.Shown.{Called, Resumed, Idled}

abbrev scene : SceneValue
scene = scene_of (
    app (codes "s") (plain_manifest 1)
    (
    (
    line (call.PortCreate (codes "svc") 2 8 (record { 0 = 1 })) [] (0 ∷ []) ∷
    line (call.Wait 4294967295 timeout.Forever) ((0, 0) ∷ []) [] ∷
    line (call.Accept 4294967295) ((0, 0) ∷ []) (1 ∷ []) ∷
    line (call.Send 4294967295 (codes "a") []) ((0, 1) ∷ []) [] ∷
    line (call.Send 4294967295 (codes "b") []) ((0, 1) ∷ []) [] ∷
    line (call.Close 4294967295) ((0, 1) ∷ []) [] ∷ []) ∷ []) ∷
    app (codes "t") (plain_manifest 2)
    (
    (
    line (call.Connect (codes "svc") (record { 0 = 1 })) [] (0 ∷ []) ∷
    line call.SetCreate [] (1 ∷ []) ∷
    line (call.Wait 4294967295 (timeout.Millis 5)) ((0, 1) ∷ []) [] ∷
    line (call.Wait 4294967295 timeout.Forever) ((0, 0) ∷ []) [] ∷
    line (call.Get 4294967295) ((0, 0) ∷ []) (2 ∷ []) ∷
    line (call.Put 4294967295 4294967295) ((0, 0) ∷ (1, 2) ∷ []) [] ∷
    line (call.Get 4294967295) ((0, 0) ∷ []) (2 ∷ []) ∷
    line (call.Put 4294967295 4294967295) ((0, 0) ∷ (1, 2) ∷ []) [] ∷
    line (call.Get 4294967295) ((0, 0) ∷ []) [] ∷ []) ∷ []) ∷ [])

history : told (serial_run scene) ≡ record {
  entries = (
      Called 0 (call.PortCreate (codes "svc") 2 8 (record { 0 = 1 })) (answer.Gives (reply.Handle 0)) ∷
      Called 1 (call.Connect (codes "svc") (record { 0 = 1 })) answer.Waits ∷
      Called 0 (call.Wait 0 timeout.Forever) (answer.Gives (reply.Event 0 (record { 0 = 1 }) 0)) ∷
      Called 0 (call.Accept 0) (answer.Gives (reply.Accepted 1 2)) ∷
      Resumed 1 (answer.Gives (reply.Handle 0)) ∷
      Called 0 (call.Send 1 (codes "a") []) (answer.Gives (reply.Count 1)) ∷
      Called 1 (call.SetCreate) (answer.Gives (reply.Handle 1)) ∷
      Called 0 (call.Send 1 (codes "b") []) (answer.Gives (reply.Count 1)) ∷
      Called 1 (call.Wait 1 (timeout.Millis 5)) answer.Waits ∷
      Called 0 (call.Close 1) (answer.Gives reply.Done) ∷
      Called 0 (call.Finish) (answer.Gives reply.Done) ∷
      Idled (answer.Clock 5) ∷
      Resumed 1 (answer.Refuses errno.TimedOut) ∷
      Called 1 (call.Wait 0 timeout.Forever) (answer.Gives (reply.Event 0 (record { 0 = 12 }) 0)) ∷
      Called 1 (call.Get 0) (answer.Gives (reply.Message 1 1 0)) ∷
      Called 1 (call.Put 0 1) (answer.Gives reply.Done) ∷
      Called 1 (call.Get 0) (answer.Gives (reply.Message 1 1 0)) ∷
      Called 1 (call.Put 0 1) (answer.Gives reply.Done) ∷
      Called 1 (call.Get 0) (answer.Refuses errno.ChannelClosed) ∷
      Called 1 (call.Finish) (answer.Gives reply.Done) ∷ []);
  facts = record { clock = 5; objects = 0; names = 0 };
}
unfolding kernel_on_literals
history = refl
