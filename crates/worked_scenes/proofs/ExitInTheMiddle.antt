-- An application ends with open ends, sets and a memory reference in a message; what others name lives on.
use Rattle.std.specs.Prelude.{◌≡◌, [], ◌∷◌, Some, None, refl, codes}
use Rattle.kernel_values.specs.declared.call.Timeout.TheVariants as timeout
use Rattle.kernel_values.specs.declared.call.Call.TheVariants as call
use Rattle.kernel_values.specs.declared.reply.Reply.TheVariants as reply
use Rattle.kernel_values.specs.declared.reply.Answer.TheVariants as answer
use Rattle.kernel_values.specs.declared.errno.Errno.TheVariants as errno
use Rattle.kernel_values.specs.SceneLaw.{SceneValue}
use Rattle.kernel_types.specs.OnLiterals.{kernel_on_literals}
use Rattle.kernel_types.specs.Serial.{serial_run}
use Rattle.worked_scenes.specs.Scenes.{scene_of, app, plain_manifest, line, names_after, facts_after}
use Rattle.worked_scenes.specs.Printouts.{told}
use Rattle.worked_scenes.specs.Printouts.Shown.{Called, Resumed, Idled}

abbrev scene : SceneValue
scene = scene_of (
    app (codes "s") (plain_manifest 1)
    (
    (
    line (call.PortCreate (codes "svc") 2 16 (record { 0 = 1 })) [] (0 ∷ []) ∷
    line (call.Wait 4294967295 timeout.Forever) ((0, 0) ∷ []) [] ∷
    line (call.Accept 4294967295) ((0, 0) ∷ []) (1 ∷ []) ∷
    line call.SetCreate [] (2 ∷ []) ∷
    line call.SetCreate [] (3 ∷ []) ∷
    line (call.SetAdd 4294967295 4294967295 (record { 0 = 31 }) 0) ((0, 2) ∷ (1, 3) ∷ []) [] ∷
    line (call.MemCreate 16 (record { 0 = 1 })) [] (4 ∷ []) ∷
    line (call.Send 4294967295 (codes "x") (4294967295 ∷ [])) ((0, 1) ∷ (1, 4) ∷ []) [] ∷
    line (call.Exit 1) [] [] ∷ []) ∷ []) ∷
    app (codes "t") (plain_manifest 2)
    (
    (
    line (call.Connect (codes "svc") (record { 0 = 1 })) [] (0 ∷ []) ∷
    line (call.Connect (codes "svc") (record { 0 = 2 })) [] (1 ∷ []) ∷
    line call.SetCreate [] (2 ∷ []) ∷
    line (call.Wait 4294967295 (timeout.Millis 5)) ((0, 2) ∷ []) [] ∷
    line (call.Wait 4294967295 timeout.Forever) ((0, 0) ∷ []) [] ∷
    line (call.Wait 4294967295 (timeout.Millis 0)) ((0, 1) ∷ []) [] ∷
    line (call.Close 4294967295) ((0, 0) ∷ []) [] ∷ []) ∷ []) ∷ [])

history : told (serial_run scene) ≡ record {
  entries = (
      Called 0 (call.PortCreate (codes "svc") 2 16 (record { 0 = 1 })) (answer.Gives (reply.Handle 0)) ∷
      Called 1 (call.Connect (codes "svc") (record { 0 = 1 })) answer.Waits ∷
      Called 0 (call.Wait 0 timeout.Forever) (answer.Gives (reply.Event 0 (record { 0 = 1 }) 0)) ∷
      Called 0 (call.Accept 0) (answer.Gives (reply.Accepted 1 2)) ∷
      Resumed 1 (answer.Gives (reply.Handle 0)) ∷
      Called 0 (call.SetCreate) (answer.Gives (reply.Handle 2)) ∷
      Called 1 (call.Connect (codes "svc") (record { 0 = 2 })) (answer.Gives (reply.Handle 1)) ∷
      Called 0 (call.SetCreate) (answer.Gives (reply.Handle 3)) ∷
      Called 1 (call.SetCreate) (answer.Gives (reply.Handle 2)) ∷
      Called 0 (call.SetAdd 2 3 (record { 0 = 31 }) 0) (answer.Gives reply.Done) ∷
      Called 1 (call.Wait 2 (timeout.Millis 5)) answer.Waits ∷
      Called 0 (call.MemCreate 16 (record { 0 = 1 })) (answer.Gives (reply.Handle 4)) ∷
      Called 0 (call.Send 1 (codes "x") (4 ∷ [])) (answer.Gives (reply.Count 1)) ∷
      Called 0 (call.Exit 1) (answer.Gives reply.Done) ∷
      Idled (answer.Clock 5) ∷
      Resumed 1 (answer.Refuses errno.TimedOut) ∷
      Called 1 (call.Wait 0 timeout.Forever) (answer.Gives (reply.Event 0 (record { 0 = 12 }) 0)) ∷
      Called 1 (call.Wait 1 (timeout.Millis 0)) (answer.Gives (reply.Event 1 (record { 0 = 4 }) 0)) ∷
      Called 1 (call.Close 0) (answer.Gives reply.Done) ∷
      Called 1 (call.Finish) (answer.Gives reply.Done) ∷ []);
  facts = record { clock = 5; objects = 0; names = 0 };
}
unfolding kernel_on_literals
history = refl

facts_after_exit : facts_after 14 scene ≡ record { clock = 0; objects = 4; names = 5 }
unfolding kernel_on_literals
facts_after_exit = refl

memory_still_named : names_after 18 scene 8 ≡ Some 1
unfolding kernel_on_literals
memory_still_named = refl

memory_gone : names_after 19 scene 8 ≡ None
unfolding kernel_on_literals
memory_gone = refl
