-- A memory reference travels in a message, under two names at once, and is read at the other side.
use Rattle.std.specs.Prelude.{◌≡◌, [], ◌∷◌, Some, refl, codes}
use Rattle.kernel_values.specs.declared.call.Timeout.TheVariants as timeout
use Rattle.kernel_values.specs.declared.call.Call.TheVariants as call
use Rattle.kernel_values.specs.declared.reply.Reply.TheVariants as reply
use Rattle.kernel_values.specs.declared.reply.Answer.TheVariants as answer
use Rattle.kernel_values.specs.SceneLaw.{SceneValue}
use Rattle.kernel_types.specs.OnLiterals.{kernel_on_literals}
use Rattle.kernel_types.specs.Serial.{serial_run}
use Rattle.worked_scenes.specs.Scenes.{scene_of, app, plain_manifest, line, names_after}
use Rattle.worked_scenes.specs.Printouts.{told}
use Rattle.worked_scenes.specs.Printouts.Shown.{Called, Resumed}

abbrev scene : SceneValue
scene = scene_of (
    app (codes "r") (plain_manifest 1)
    (
    (
    line (call.PortCreate (codes "svc") 1 8 (record { 0 = 1 })) [] (0 ∷ []) ∷
    line (call.Wait 4294967295 timeout.Forever) ((0, 0) ∷ []) [] ∷
    line (call.Accept 4294967295) ((0, 0) ∷ []) (1 ∷ []) ∷
    line (call.Wait 4294967295 timeout.Forever) ((0, 1) ∷ []) [] ∷
    line (call.Get 4294967295) ((0, 1) ∷ []) (2 ∷ []) ∷
    line (call.Read 4294967295 4294967295 0 8 2) ((0, 1) ∷ (1, 2) ∷ []) (3 ∷ 4 ∷ []) ∷
    line (call.Put 4294967295 4294967295) ((0, 1) ∷ (1, 2) ∷ []) [] ∷
    line (call.MemRead 4294967295 0 2) ((0, 4) ∷ []) [] ∷ []) ∷ []) ∷
    app (codes "s") (plain_manifest 2)
    (
    (
    line (call.Connect (codes "svc") (record { 0 = 1 })) [] (0 ∷ []) ∷
    line (call.MemCreate 4 (record { 0 = 1 })) [] (1 ∷ []) ∷
    line (call.MemWrite 4294967295 0 (1 ∷ 2 ∷ [])) ((0, 1) ∷ []) [] ∷
    line (call.Send 4294967295 (codes "x") (4294967295 ∷ 4294967295 ∷ [])) ((0, 0) ∷ (1, 1) ∷ (2, 1) ∷ []) [] ∷
    line (call.Close 4294967295) ((0, 1) ∷ []) [] ∷
    line (call.Wait 4294967295 timeout.Forever) ((0, 0) ∷ []) [] ∷ []) ∷ []) ∷ [])

history : told (serial_run scene) ≡ record {
  entries = (
      Called 0 (call.PortCreate (codes "svc") 1 8 (record { 0 = 1 })) (answer.Gives (reply.Handle 0)) ∷
      Called 1 (call.Connect (codes "svc") (record { 0 = 1 })) answer.Waits ∷
      Called 0 (call.Wait 0 timeout.Forever) (answer.Gives (reply.Event 0 (record { 0 = 1 }) 0)) ∷
      Called 0 (call.Accept 0) (answer.Gives (reply.Accepted 1 2)) ∷
      Resumed 1 (answer.Gives (reply.Handle 0)) ∷
      Called 0 (call.Wait 1 timeout.Forever) answer.Waits ∷
      Called 1 (call.MemCreate 4 (record { 0 = 1 })) (answer.Gives (reply.Handle 1)) ∷
      Called 1 (call.MemWrite 1 0 (1 ∷ 2 ∷ [])) (answer.Gives reply.Done) ∷
      Called 1 (call.Send 0 (codes "x") (1 ∷ 1 ∷ [])) (answer.Gives (reply.Count 1)) ∷
      Resumed 0 (answer.Gives (reply.Event 1 (record { 0 = 8 }) 0)) ∷
      Called 1 (call.Close 1) (answer.Gives reply.Done) ∷
      Called 0 (call.Get 1) (answer.Gives (reply.Message 1 1 2)) ∷
      Called 1 (call.Wait 0 timeout.Forever) answer.Waits ∷
      Called 0 (call.Read 1 1 0 8 2) (answer.Gives (reply.Bytes (codes "x") (2 ∷ 3 ∷ []))) ∷
      Called 0 (call.Put 1 1) (answer.Gives reply.Done) ∷
      Called 0 (call.MemRead 3 0 2) (answer.Gives (reply.Bytes (1 ∷ 2 ∷ []) [])) ∷
      Called 0 (call.Finish) (answer.Gives reply.Done) ∷
      Resumed 1 (answer.Gives (reply.Event 0 (record { 0 = 4 }) 0)) ∷
      Called 1 (call.Finish) (answer.Gives reply.Done) ∷ []);
  facts = record { clock = 0; objects = 0; names = 0 };
}
unfolding kernel_on_literals
history = refl

named_by_parts : names_after 9 scene 3 ≡ Some 3
unfolding kernel_on_literals
named_by_parts = refl

named_after_close : names_after 11 scene 3 ≡ Some 2
unfolding kernel_on_literals
named_after_close = refl

named_after_read : names_after 14 scene 3 ≡ Some 4
unfolding kernel_on_literals
named_after_read = refl

named_after_put : names_after 15 scene 3 ≡ Some 2
unfolding kernel_on_literals
named_after_put = refl
