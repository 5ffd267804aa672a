use Rattle.std.proofs.Common.{arith}
use Rattle.ns_bridge.proofs.ClientSteps.{client_did, client_refused}
use Rattle.ns_bridge.proofs.OnTime.{client_on_time}
use Rattle.ns_bridge.proofs.kernel.Kernel.step_client.Goals as goal

pub invariant_of-self : goal.invariant_of-self
invariant_of-self g c =
    let core = (g.C.IpcKernel.state c.self.inside.bridge.core).core in
    let clock = rw (← c.self.view_is) at c.clock-clock.ensures in
    let acted = rw (c.in-Ok-Some.field-0-is) at c.in-Ok-Some.ensures.done in
    let done = rw clock at acted in (
      record { fewer = omega (arith, c.self.invariant.0.fewer); count = c.self.invariant.0.count },
      client_on_time c.args.client c.args.event core c.self.inside.normal c.act.new.self c.in-Ok-Some.answer done c.has_short_timeout.ensures c.self.invariant.1,
    )

pub returns-in-Ok-Some-clause-done : goal.returns-in-Ok-Some-clause-done
returns-in-Ok-Some-clause-done g c =
    let core = (g.C.IpcKernel.state c.self.inside.bridge.core).core in
    let of = rw (← c.self.view_is) at c.requires.of in
    let below = rw (← c.self.view_is) at c.requires.below in
    let clock = rw (← c.self.view_is) at c.clock-clock.ensures in
    let acted = rw (c.in-Ok-Some.field-0-is) at c.in-Ok-Some.ensures.done in
    let done = rw clock at acted in
    rw (← c.self.view_is, c.no_seqs.ensures)
    (client_did c.args.event core c.self.inside.bridge.device c.self.inside.normal c.act.new.self c.in-Ok-Some.answer c.args.client c.self.inside.made of below done)

pub returns-in-Ok-None-clause-refused : goal.returns-in-Ok-None-clause-refused
returns-in-Ok-None-clause-refused g c =
    let core = (g.C.IpcKernel.state c.self.inside.bridge.core).core in
    let of = rw (← c.self.view_is) at c.requires.of in
    let clock = rw (← c.self.view_is) at c.clock-clock.ensures in
    let acted = rw (c.in-Ok-None.field-0-is) at c.in-Ok-None.ensures.done in
    let done = rw clock at acted in
    let same = rw (c.in-Ok-None.field-0-is) at c.in-Ok-None.ensures.stays in
    rw (c.refuses.ensures, c.status_for-status.ensures, ← c.self.view_is)
    (client_refused c.args.event core c.self.inside.bridge.device c.self.inside.normal c.act.new.self c.args.client c.self.inside.made of done same)
