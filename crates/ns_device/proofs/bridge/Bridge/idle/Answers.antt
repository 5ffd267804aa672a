use Rattle.ns_device.proofs.Sounds.{sound_idled}
use Rattle.ns_device.proofs.bridge.Bridge.idle.Goals as goal

pub invariant_of-self : goal.invariant_of-self
invariant_of-self g c = sound_idled c.args.clock _ _ _ _ _ c.self.invariant c.idle.ensures
