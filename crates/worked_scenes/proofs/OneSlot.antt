-- One slot of 4 bytes: a second message finds it taken, a third is too long; what was sent before a close is still read.
use Rattle.std.specs.Prelude.{◌≡◌, [], ◌∷◌, refl, codes}
use Rattle.kernel_values.specs.declared.call.Call.TheVariants as call
use Rattle.kernel_values.specs.declared.reply.Reply.TheVariants as reply
use Rattle.kernel_values.specs.declared.reply.Answer.TheVariants as answer
use Rattle.kernel_values.specs.declared.errno.Errno.TheVariants as errno
use Rattle.kernel_values.specs.SceneLaw.{SceneValue}
use Rattle.kernel_types.specs.OnLiterals.{kernel_on_literals}
use Rattle.kernel_types.specs.Serial.{serial_run}
use Rattle.worked_scenes.specs.Scenes.{scene_of, app, plain_manifest, line}
use Rattle.worked_scenes.specs.Printouts.{told}
use Rattle.worked_scenes.specs.Printouts.Shown.{Called}

abbrev scene : SceneValue
scene = scene_of (
    app (codes "server") (plain_manifest 1)
    (
    (
    line (call.PortCreate (codes "svc") 1 4 (record { 0 = 1 })) [] (0 ∷ []) ∷
    line (call.Accept 4294967295) ((0, 0) ∷ []) (1 ∷ []) ∷
    line (call.Get 4294967295) ((0, 1) ∷ []) (2 ∷ []) ∷
    line (call.Get 4294967295) ((0, 1) ∷ []) [] ∷
    line (call.Read 4294967295 4294967295 0 4 0) ((0, 1) ∷ (1, 2) ∷ []) [] ∷
    line (call.Put 4294967295 4294967295) ((0, 1) ∷ (1, 2) ∷ []) [] ∷
    line (call.Get 4294967295) ((0, 1) ∷ []) [] ∷ []) ∷ []) ∷
    app (codes "client") (plain_manifest 2)
    (
    (
    line (call.Connect (codes "svc") (record { 0 = 2 })) [] (0 ∷ []) ∷
    line (call.Send 4294967295 (codes "ping") []) ((0, 0) ∷ []) [] ∷
    line (call.Send 4294967295 (codes "more") []) ((0, 0) ∷ []) [] ∷
    line (call.Send 4294967295 (codes "toolong") []) ((0, 0) ∷ []) [] ∷
    line (call.Close 4294967295) ((0, 0) ∷ []) [] ∷ []) ∷ []) ∷ [])

history : told (serial_run scene) ≡ record {
  entries = (
      Called 0 (call.PortCreate (codes "svc") 1 4 (record { 0 = 1 })) (answer.Gives (reply.Handle 0)) ∷
      Called 1 (call.Connect (codes "svc") (record { 0 = 2 })) (answer.Gives (reply.Handle 0)) ∷
      Called 0 (call.Accept 0) (answer.Gives (reply.Accepted 1 2)) ∷
      Called 1 (call.Send 0 (codes "ping") []) (answer.Gives (reply.Count 4)) ∷
      Called 0 (call.Get 1) (answer.Gives (reply.Message 1 4 0)) ∷
      Called 1 (call.Send 0 (codes "more") []) (answer.Refuses errno.NotEnoughBuffer) ∷
      Called 0 (call.Get 1) (answer.Refuses errno.NoMsg) ∷
      Called 1 (call.Send 0 (codes "toolong") []) (answer.Refuses errno.TooBig) ∷
      Called 0 (call.Read 1 1 0 4 0) (answer.Gives (reply.Bytes (codes "ping") [])) ∷
      Called 1 (call.Close 0) (answer.Gives reply.Done) ∷
      Called 0 (call.Put 1 1) (answer.Gives reply.Done) ∷
      Called 1 (call.Finish) (answer.Gives reply.Done) ∷
      Called 0 (call.Get 1) (answer.Refuses errno.ChannelClosed) ∷
      Called 0 (call.Finish) (answer.Gives reply.Done) ∷ []);
  facts = record { clock = 0; objects = 0; names = 0 };
}
unfolding kernel_on_literals
history = refl
