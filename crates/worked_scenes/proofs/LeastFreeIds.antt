-- Open messages have the least free ids, and may be retired in any order.
use Rattle.std.specs.Prelude.{◌≡◌, [], ◌∷◌, refl, codes}
use Rattle.kernel_values.specs.declared.call.Timeout.TheVariants as timeout
use Rattle.kernel_values.specs.declared.call.Call.TheVariants as call
use Rattle.kernel_values.specs.declared.reply.Reply.TheVariants as reply
use Rattle.kernel_values.specs.declared.reply.Answer.TheVariants as answer
use Rattle.kernel_values.specs.declared.errno.Errno.TheVariants as errno
use Rattle.kernel_values.specs.SceneLaw.{SceneValue}
use Rattle.kernel_types.specs.OnLiterals.{kernel_on_literals}
use Rattle.kernel_types.specs.Serial.{serial_run}
use Rattle.kernel_types.specs.Stories.{story_of}
use Rattle.worked_scenes.specs.Scenes.{scene_of, app, plain_manifest, line}
use Rattle.worked_scenes.specs.Printouts.{told}
use Rattle.worked_scenes.specs.Printouts.Shown.{Called, Resumed, Idled}

abbrev scene : SceneValue
scene = scene_of (
    app (codes "r") (plain_manifest 1)
    (
    (
    line (call.PortCreate (codes "svc") 4 8 (record { 0 = 1 })) [] (0 ∷ []) ∷
    line (call.Wait 4294967295 timeout.Forever) ((0, 0) ∷ []) [] ∷
    line (call.Accept 4294967295) ((0, 0) ∷ []) (1 ∷ []) ∷
    line call.SetCreate [] (2 ∷ []) ∷
    line (call.Wait 4294967295 (timeout.Millis 5)) ((0, 2) ∷ []) [] ∷
    line (call.Get 4294967295) ((0, 1) ∷ []) [] ∷
    line (call.Get 4294967295) ((0, 1) ∷ []) [] ∷
    line (call.Get 4294967295) ((0, 1) ∷ []) [] ∷
    line (call.Put 4294967295 2) ((0, 1) ∷ []) [] ∷
    line (call.Put 4294967295 3) ((0, 1) ∷ []) [] ∷
    line (call.Get 4294967295) ((0, 1) ∷ []) [] ∷
    line (call.Put 4294967295 1) ((0, 1) ∷ []) [] ∷
    line (call.Put 4294967295 2) ((0, 1) ∷ []) [] ∷ []) ∷ []) ∷
    app (codes "s") (plain_manifest 2)
    (
    (
    line (call.Connect (codes "svc") (record { 0 = 1 })) [] (0 ∷ []) ∷
    line (call.Send 4294967295 (codes "a") []) ((0, 0) ∷ []) [] ∷
    line (call.Send 4294967295 (codes "b") []) ((0, 0) ∷ []) [] ∷
    line (call.Send 4294967295 (codes "c") []) ((0, 0) ∷ []) [] ∷
    line (call.Send 4294967295 (codes "d") []) ((0, 0) ∷ []) [] ∷
    line (call.Wait 4294967295 timeout.Forever) ((0, 0) ∷ []) [] ∷ []) ∷ []) ∷ [])

history : told (serial_run scene) ≡ record {
  entries = (
      Called 0 (call.PortCreate (codes "svc") 4 8 (record { 0 = 1 })) (answer.Gives (reply.Handle 0)) ∷
      Called 1 (call.Connect (codes "svc") (record { 0 = 1 })) answer.Waits ∷
      Called 0 (call.Wait 0 timeout.Forever) (answer.Gives (reply.Event 0 (record { 0 = 1 }) 0)) ∷
      Called 0 (call.Accept 0) (answer.Gives (reply.Accepted 1 2)) ∷
      Resumed 1 (answer.Gives (reply.Handle 0)) ∷
      Called 0 (call.SetCreate) (answer.Gives (reply.Handle 2)) ∷
      Called 1 (call.Send 0 (codes "a") []) (answer.Gives (reply.Count 1)) ∷
      Called 0 (call.Wait 2 (timeout.Millis 5)) answer.Waits ∷
      Called 1 (call.Send 0 (codes "b") []) (answer.Gives (reply.Count 1)) ∷
      Called 1 (call.Send 0 (codes "c") []) (answer.Gives (reply.Count 1)) ∷
      Called 1 (call.Send 0 (codes "d") []) (answer.Gives (reply.Count 1)) ∷
      Called 1 (call.Wait 0 timeout.Forever) answer.Waits ∷
      Idled (answer.Clock 5) ∷
      Resumed 0 (answer.Refuses errno.TimedOut) ∷
      Called 0 (call.Get 1) (answer.Gives (reply.Message 1 1 0)) ∷
      Called 0 (call.Get 1) (answer.Gives (reply.Message 2 1 0)) ∷
      Called 0 (call.Get 1) (answer.Gives (reply.Message 3 1 0)) ∷
      Called 0 (call.Put 1 2) (answer.Gives reply.Done) ∷
      Called 0 (call.Put 1 3) (answer.Gives reply.Done) ∷
      Called 0 (call.Get 1) (answer.Gives (reply.Message 2 1 0)) ∷
      Called 0 (call.Put 1 1) (answer.Gives reply.Done) ∷
      Called 0 (call.Put 1 2) (answer.Gives reply.Done) ∷
      Called 0 (call.Finish) (answer.Gives reply.Done) ∷
      Resumed 1 (answer.Gives (reply.Event 0 (record { 0 = 4 }) 0)) ∷
      Called 1 (call.Finish) (answer.Gives reply.Done) ∷ []);
  facts = record { clock = 5; objects = 0; names = 0 };
}
unfolding kernel_on_literals
history = refl

story_of_the_server_end : story_of (serial_run scene).entries 2 ≡ record { sent = 0 ∷ 1 ∷ 2 ∷ 3 ∷ []; opened = 0 ∷ 1 ∷ 2 ∷ 3 ∷ []; retired = 1 ∷ 2 ∷ 0 ∷ 3 ∷ [] }
unfolding kernel_on_literals
story_of_the_server_end = refl
