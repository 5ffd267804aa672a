use Rattle.counted_core.specs.Sweeping.{core_of}
use Rattle.counted_core.proofs.Entries.{pending_there}
use Rattle.counted_core.proofs.counts.CountedCore.sound_ports.Goals as goal

pub returns : goal.returns
returns c =
    let k = core_of c.self.inside.apps c.self.inside.threads c.self.inside.store.items c.self.inside.store.next c.self.inside.clock c.self.inside.bridged in
    rw (← c.self.view_is) (pending_there k c.self.inside.store.items c.self.invariant.counted)
