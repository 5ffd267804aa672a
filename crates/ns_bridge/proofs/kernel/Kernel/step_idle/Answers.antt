use Rattle.std.proofs.Common.{◌≡◌, true, false, refl}
use Rattle.kernel_types.specs.CoreStep.{least_deadline, sooner}
use Rattle.kernel_types.specs.Step.{idle_lawful, least_client_deadline}
use Rattle.ns_bridge.specs.Parts.{state_of}
use Rattle.ns_bridge.proofs.IdleSteps.{idle_did, idle_refused, idle_whole}
use Rattle.ns_bridge.proofs.NextDeadline.{idle_is_later, idle_on_time}
use Rattle.ns_bridge.proofs.kernel.Kernel.step_idle.Goals as goal

pub returns-then-not-lawful-clause-refused : goal.returns-then-not-lawful-clause-refused
returns-then-not-lawful-clause-refused g c =
    let lawful : idle_lawful c.args.self.now.state ≡ false = cc (c.may_idle-lawful.ensures, c.if-not-lawful.true) in
    rw (c.refuses.ensures) (idle_refused c.args.self.now.state c.args.self.now.made lawful)

pub idle-requires-clause-later : goal.idle-requires-clause-later
idle-requires-clause-later g c =
    let core = (g.C.IpcKernel.state c.self.inside.bridge.core).core in
    let n = c.self.inside.normal in
    let lawful : idle_lawful c.args.self.now.state ≡ true = cc (c.may_idle-lawful.ensures, c.if-not-lawful.false) in
    let least : c.sooner-deadline.result ≡ sooner (least_deadline core) (least_client_deadline n.clients) =
    rw (c.sooner-deadline.ensures, c.least_deadline.ensures, c.least_deadline-2.ensures, c.core.ensures) refl in
    idle_is_later (state_of core c.self.inside.bridge.device n) c.sooner-deadline.result (rw (← c.self.view_is) at lawful) c.self.invariant.1.threads c.self.invariant.1.clients least

pub invariant_of-self : goal.invariant_of-self
invariant_of-self g c =
    let s = g.C.IpcKernel.state c.self.inside.bridge.core in
    let t = g.C.IpcKernel.state c.idle.new.self.core in
    let n = c.self.inside.normal in
    let lawful : idle_lawful c.args.self.now.state ≡ true = cc (c.may_idle-lawful.ensures, c.if-not-lawful.false) in
    let least : c.sooner-deadline.result ≡ sooner (least_deadline s.core) (least_client_deadline n.clients) =
    rw (c.sooner-deadline.ensures, c.least_deadline.ensures, c.least_deadline-2.ensures, c.core.ensures) refl in
    let later = idle_is_later (state_of s.core c.self.inside.bridge.device n) c.sooner-deadline.result (rw (← c.self.view_is) at lawful) c.self.invariant.1.threads c.self.invariant.1.clients least in
    rw (c.idle-2.ensures) (
      idle_whole s t c.sooner-deadline.result _ _ c.self.inside.threads c.self.inside.made c.idle.ensures.idled c.self.invariant.0,
      idle_on_time c.sooner-deadline.result s t n _ _ c.idle.ensures.idled later c.self.invariant.1,
    )

pub returns-clause-done : goal.returns-clause-done
returns-clause-done g c =
    let s = g.C.IpcKernel.state c.self.inside.bridge.core in
    let t = g.C.IpcKernel.state c.idle.new.self.core in
    let n = c.self.inside.normal in
    let lawful : idle_lawful c.args.self.now.state ≡ true = cc (c.may_idle-lawful.ensures, c.if-not-lawful.false) in
    let least : c.sooner-deadline.result ≡ sooner (least_deadline s.core) (least_client_deadline n.clients) =
    rw (c.sooner-deadline.ensures, c.least_deadline.ensures, c.least_deadline-2.ensures, c.core.ensures) refl in
    let below = rw (← c.self.view_is) at c.requires.below in
    rw (← c.self.view_is, c.idle.ensures.device, c.idle-2.ensures, c.idle_answer.ensures, c.no_seqs.ensures)
    (idle_did s t c.self.inside.bridge.device n c.sooner-deadline.result _ _ c.self.inside.made (rw (← c.self.view_is) at lawful) below least c.idle.ensures.idled)
