-- A set in a set makes it ready; a closed number's label still names the member.
use Rattle.std.specs.Prelude.{◌≡◌, [], ◌∷◌, Some, None, refl, codes}
use Rattle.kernel_values.specs.declared.call.Timeout.TheVariants as timeout
use Rattle.kernel_values.specs.declared.call.Call.TheVariants as call
use Rattle.kernel_values.specs.declared.reply.Reply.TheVariants as reply
use Rattle.kernel_values.specs.declared.reply.Answer.TheVariants as answer
use Rattle.kernel_values.specs.declared.errno.Errno.TheVariants as errno
use Rattle.kernel_values.specs.SceneLaw.{SceneValue}
use Rattle.kernel_types.specs.OnLiterals.{kernel_on_literals}
use Rattle.kernel_types.specs.Serial.{serial_run}
use Rattle.worked_scenes.specs.Scenes.{scene_of, app, plain_manifest, line, names_after}
use Rattle.worked_scenes.specs.Printouts.{told}
use Rattle.worked_scenes.specs.Printouts.Shown.{Called}

abbrev scene : SceneValue
scene = scene_of (
    app (codes "a") (plain_manifest 1)
    (
    (
    line (call.PortCreate (codes "svc") 1 8 (record { 0 = 1 })) [] (0 ∷ []) ∷
    line (call.Connect (codes "svc") (record { 0 = 2 })) [] (1 ∷ []) ∷
    line (call.Accept 4294967295) ((0, 0) ∷ []) (2 ∷ []) ∷
    line call.SetCreate [] (3 ∷ []) ∷
    line call.SetCreate [] (4 ∷ []) ∷
    line (call.SetAdd 4294967295 4294967295 (record { 0 = 31 }) 7) ((0, 4) ∷ (1, 2) ∷ []) [] ∷
    line (call.SetAdd 4294967295 4294967295 (record { 0 = 31 }) 9) ((0, 3) ∷ (1, 4) ∷ []) [] ∷
    line (call.Close 4294967295) ((0, 4) ∷ []) [] ∷
    line (call.Send 4294967295 (codes "x") []) ((0, 1) ∷ []) [] ∷
    line (call.Wait 4294967295 (timeout.Millis 0)) ((0, 3) ∷ []) [] ∷
    line (call.SetDel 4294967295 4) ((0, 3) ∷ []) [] ∷
    line (call.Wait 4294967295 (timeout.Millis 0)) ((0, 3) ∷ []) [] ∷ []) ∷ []) ∷ [])

history : told (serial_run scene) ≡ record {
  entries = (
      Called 0 (call.PortCreate (codes "svc") 1 8 (record { 0 = 1 })) (answer.Gives (reply.Handle 0)) ∷
      Called 0 (call.Connect (codes "svc") (record { 0 = 2 })) (answer.Gives (reply.Handle 1)) ∷
      Called 0 (call.Accept 0) (answer.Gives (reply.Accepted 2 1)) ∷
      Called 0 (call.SetCreate) (answer.Gives (reply.Handle 3)) ∷
      Called 0 (call.SetCreate) (answer.Gives (reply.Handle 4)) ∷
      Called 0 (call.SetAdd 4 2 (record { 0 = 31 }) 7) (answer.Gives reply.Done) ∷
      Called 0 (call.SetAdd 3 4 (record { 0 = 31 }) 9) (answer.Gives reply.Done) ∷
      Called 0 (call.Close 4) (answer.Gives reply.Done) ∷
      Called 0 (call.Send 1 (codes "x") []) (answer.Gives (reply.Count 1)) ∷
      Called 0 (call.Wait 3 (timeout.Millis 0)) (answer.Gives (reply.Event 4 (record { 0 = 1 }) 9)) ∷
      Called 0 (call.SetDel 3 4) (answer.Gives reply.Done) ∷
      Called 0 (call.Wait 3 (timeout.Millis 0)) (answer.Refuses errno.TimedOut) ∷
      Called 0 (call.Finish) (answer.Gives reply.Done) ∷ []);
  facts = record { clock = 0; objects = 0; names = 0 };
}
unfolding kernel_on_literals
history = refl

inner_set_named_once : names_after 10 scene 4 ≡ Some 1
unfolding kernel_on_literals
inner_set_named_once = refl

accepted_end_named_twice : names_after 10 scene 2 ≡ Some 2
unfolding kernel_on_literals
accepted_end_named_twice = refl

inner_set_gone : names_after 11 scene 4 ≡ None
unfolding kernel_on_literals
inner_set_gone = refl

accepted_end_named_once : names_after 11 scene 2 ≡ Some 1
unfolding kernel_on_literals
accepted_end_named_once = refl
