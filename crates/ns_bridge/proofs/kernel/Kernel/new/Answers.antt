use Rattle.std.proofs.Common.{◌≡◌, map, refl}
use Rattle.kernel_types.specs.GuestMemory.{opening_memory}
use Rattle.kernel_types.specs.Opening.{opening_client, opening_device, opening_driver}
use Rattle.ns_bridge.specs.Wholes.{threads_of}
use Rattle.ns_bridge.proofs.OnTime.{opening_on_time}
use Rattle.ns_bridge.proofs.Opened.{opening_is, opening_whole}
use Rattle.ns_bridge.proofs.kernel.Kernel.new.Goals as goal

pub invariant_of-result : goal.invariant_of-result
invariant_of-result g c =
    let scene = c.args.scene.now in
    let s = g.C.IpcKernel.state c.args.core in
    let count : c.in_ok-threads.threads ≡ threads_of scene.apps = rw (← c.scene.view_is, c.in_ok-threads.ensures, c.as_slice.ensures) refl in
    let clients : c.in_ok-normal.normal.clients ≡ map opening_client scene.clients = rw (← c.scene.view_is, c.in_ok-normal.ensures.clients, c.as_slice-2.ensures) refl in
    rw (c.new-bridge.ensures.core) (
      opening_whole scene s _ c.in_ok-threads.threads c.requires.state c.requires.made count,
      opening_on_time scene s c.in_ok-normal.normal.clients c.requires.state clients,
    )

pub returns-clause-state : goal.returns-clause-state
returns-clause-state g c =
    let scene = c.args.scene.now in
    let n = c.in_ok-normal.normal in
    let device : c.new-bridge.result.device ≡ opening_device scene.queue = rw (← c.scene.view_is) c.new-bridge.ensures.device in
    let memory : n.memory ≡ opening_memory scene.queue = rw (← c.scene.view_is) c.in_ok-normal.ensures.memory in
    let driver : n.driver ≡ opening_driver scene.queue = rw (← c.scene.view_is) c.in_ok-normal.ensures.driver in
    let clients : n.clients ≡ map opening_client scene.clients = rw (← c.scene.view_is, c.in_ok-normal.ensures.clients, c.as_slice-2.ensures) refl in
    rw (c.new-bridge.ensures.core) (opening_is scene (g.C.IpcKernel.state c.args.core) c.new-bridge.result.device n c.requires.state device memory driver clients)
