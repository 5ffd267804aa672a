use Rattle.ns_device.proofs.Sounds.{sound_stepped}
use Rattle.ns_device.proofs.bridge.Bridge.step.Goals as goal

pub invariant_of-self : goal.invariant_of-self
invariant_of-self g c = sound_stepped c.step.result _ _ _ _ _ _ c.self.invariant c.step.ensures.done c.step.ensures.state c.step.ensures.device
