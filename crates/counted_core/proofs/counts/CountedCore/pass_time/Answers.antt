use Rattle.counted_core.proofs.Waits.{cancels}
use Rattle.counted_core.proofs.counts.CountedCore.pass_time.Goals as goal

pub invariant_of-self-in-None : goal.invariant_of-self-in-None
invariant_of-self-in-None c = rw c.cancel_all.ensures (cancels c.self.inside.apps c.self.inside.threads c.self.inside.store.items c.self.inside.store.next c.self.inside.clock c.self.inside.bridged c.self.invariant)
