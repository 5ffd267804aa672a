use Rattle.ns_device.proofs.Sounds.{sound_tried}
use Rattle.ns_device.proofs.bridge.Bridge.step_core.Goals as goal

pub invariant_of-self : goal.invariant_of-self
invariant_of-self g c =
    sound_tried c.args.event _ _ _ _ c.step.result _ (g.met.C.Core.has_no_clients c.self.inside.core) c.self.invariant c.step.ensures.done c.step.ensures.refused
