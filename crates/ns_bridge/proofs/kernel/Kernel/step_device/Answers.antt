use Rattle.std.proofs.Common.{◌≡◌, ◌<◌, length, arith}
use Rattle.ns_bridge.specs.Parts.{state_of}
use Rattle.ns_bridge.proofs.DeviceSteps.{device_did, device_fits, device_on_time, device_whole, idle_device_refused, lone_device_refused}
use Rattle.ns_bridge.proofs.kernel.Kernel.step_device.Goals as goal

pub returns-then-len-eq0-clause-refused : goal.returns-then-len-eq0-clause-refused
returns-then-len-eq0-clause-refused g c =
    let core = (g.C.IpcKernel.state c.self.inside.bridge.core).core in
    let none : length c.self.inside.normal.clients ≡ 0 = omega (arith, c.len.ensures, c.if-len-eq0.true) in
    rw (c.refuses.ensures, ← c.self.view_is) (lone_device_refused (state_of core c.self.inside.bridge.device c.self.inside.normal) c.self.inside.made none)

pub invariant_of-self : goal.invariant_of-self
invariant_of-self g c =
    let s = g.C.IpcKernel.state c.self.inside.bridge.core in
    let t = g.C.IpcKernel.state c.step_device.new.bridge.core in
    let d = c.self.inside.bridge.device in
    let e = c.step_device.new.bridge.device in
    let n = c.self.inside.normal in
    let after = c.step_device.new.self in
    let anywhere = c.device_steps_anywhere.ensures in
    let some : 0 < length n.clients = omega (arith, c.len.ensures, c.if-len-eq0.false) in
    let stepped = rw (c.in-Ok-Some.field-0-is) at c.in-Ok-Some.ensures.done in
    let driver = c.in-Ok-Some.ensures.driver in
    let clients = c.in-Ok-Some.ensures.clients in (
      device_whole anywhere s t d e n after c.in-Ok-Some.told _ _ c.self.inside.threads c.self.inside.made some stepped driver clients c.in-Ok-Some.ensures.made c.self.invariant.0,
      device_on_time anywhere s t d e n after c.in-Ok-Some.told some stepped driver clients c.self.invariant.1,
    )

pub returns-in-Ok-Some-clause-done : goal.returns-in-Ok-Some-clause-done
returns-in-Ok-Some-clause-done g c =
    let s = g.C.IpcKernel.state c.self.inside.bridge.core in
    let t = g.C.IpcKernel.state c.step_device.new.bridge.core in
    let d = c.self.inside.bridge.device in
    let n = c.self.inside.normal in
    let some : 0 < length n.clients = omega (arith, c.len.ensures, c.if-len-eq0.false) in
    let stepped = rw (c.in-Ok-Some.field-0-is) at c.in-Ok-Some.ensures.done in
    let below = rw (← c.self.view_is) at c.requires.below in
    rw (← c.self.view_is)
    (device_did c.device_steps_anywhere.ensures s t d c.step_device.new.bridge.device n c.step_device.new.self c.in-Ok-Some.told c.self.inside.made some below stepped c.in-Ok-Some.ensures.driver
    c.in-Ok-Some.ensures.clients)

pub returns-in-Ok-Some-clause-fits : goal.returns-in-Ok-Some-clause-fits
returns-in-Ok-Some-clause-fits g c =
    let s = g.C.IpcKernel.state c.self.inside.bridge.core in
    let t = g.C.IpcKernel.state c.step_device.new.bridge.core in
    let d = c.self.inside.bridge.device in
    let n = c.self.inside.normal in
    let some : 0 < length n.clients = omega (arith, c.len.ensures, c.if-len-eq0.false) in
    let stepped = rw (c.in-Ok-Some.field-0-is) at c.in-Ok-Some.ensures.done in
    device_fits c.device_steps_anywhere.ensures s t d c.step_device.new.bridge.device n c.step_device.new.self c.in-Ok-Some.told some stepped c.in-Ok-Some.ensures.driver c.in-Ok-Some.ensures.clients

pub returns-in-Ok-None-clause-refused : goal.returns-in-Ok-None-clause-refused
returns-in-Ok-None-clause-refused g c =
    let s = g.C.IpcKernel.state c.self.inside.bridge.core in
    let t = g.C.IpcKernel.state c.step_device.new.bridge.core in
    let d = c.self.inside.bridge.device in
    let n = c.self.inside.normal in
    let some : 0 < length n.clients = omega (arith, c.len.ensures, c.if-len-eq0.false) in
    let stepped = rw (c.in-Ok-None.field-0-is) at c.in-Ok-None.ensures.done in
    rw (c.refuses-in-Ok-None.ensures, ← c.self.view_is)
    (idle_device_refused c.device_steps_anywhere.ensures s t d c.step_device.new.bridge.device n c.step_device.new.self c.self.inside.made some stepped c.in-Ok-None.ensures.driver
    c.in-Ok-None.ensures.clients)
