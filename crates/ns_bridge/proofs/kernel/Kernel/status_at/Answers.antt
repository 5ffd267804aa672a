use Rattle.std.proofs.Common.{arith}
use Rattle.ns_bridge.proofs.Readings.{thread_there}
use Rattle.ns_bridge.proofs.kernel.Kernel.status_at.Goals as goal

pub status-requires : goal.status-requires
status-requires g c =
    let core = c.self.inside.bridge.core in
    rw (c.core.ensures)
    (thread_there (g.C.IpcKernel.state core) c.args.actor.0 (g.met.C.Core.has_no_clients core) (omega (arith, c.if-actor-self.true, c.self.invariant.0.count)))
