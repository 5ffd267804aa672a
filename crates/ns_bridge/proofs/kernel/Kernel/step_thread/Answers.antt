use Rattle.ns_bridge.proofs.OnTime.{thread_on_time}
use Rattle.ns_bridge.proofs.Threads.{did_whole, thread_did, thread_refused}
use Rattle.ns_bridge.proofs.kernel.Kernel.step_thread.Goals as goal

pub invariant_of-self : goal.invariant_of-self
invariant_of-self g c =
    let core = c.self.inside.bridge.core in
    let after = c.step_core.new.self.core in
    let did = c.in-Ok.ensures.done in
    let of = rw (← c.self.view_is) at c.requires.of in (
      did_whole c.args.event (g.C.IpcKernel.state core) (g.C.IpcKernel.state after) _ _ c.self.inside.threads c.self.inside.made c.in-Ok.entry did (g.met.C.Core.has_no_clients core)
          (g.met.C.Core.has_no_clients after) c.self.invariant.0,
      thread_on_time c.args.event (g.C.IpcKernel.state core) (g.C.IpcKernel.state after) _ _ c.in-Ok.entry c.self.inside.normal.clients of c.has_short_timeout.ensures did c.self.invariant.1,
    )

pub returns-in-Ok-clause-done : goal.returns-in-Ok-clause-done
returns-in-Ok-clause-done g c =
    let of = rw (← c.self.view_is) at c.requires.of in
    let below = rw (← c.self.view_is) at c.requires.below in
    rw (← c.self.view_is, c.in-Ok.ensures.device)
    (thread_did c.args.event (g.C.IpcKernel.state c.self.inside.bridge.core) (g.C.IpcKernel.state c.step_core.new.self.core) _ _ c.self.inside.made c.in-Ok.entry c.self.inside.bridge.device
    c.self.inside.normal of below c.in-Ok.ensures.done)

pub returns-in-Err-clause-refused : goal.returns-in-Err-clause-refused
returns-in-Err-clause-refused g c =
    let of = rw (← c.self.view_is) at c.requires.of in
    let below = rw (← c.self.view_is) at c.requires.below in
    rw (← c.self.view_is, c.in-Err.ensures.device)
    (thread_refused c.args.event (g.C.IpcKernel.state c.self.inside.bridge.core) (g.C.IpcKernel.state c.step_core.new.self.core) _ _ c.self.inside.made c.in-Err.refused c.self.inside.bridge.device
    c.self.inside.normal of c.self.invariant.0.fewer below c.in-Err.ensures.refused)
