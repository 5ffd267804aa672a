use Rattle.std.proofs.Common.{rules, ◌≡◌}
use Rattle.kernel_types.specs.Opening.{opening_core}
use Rattle.plain_kernel.specs.Ready.{IsListed}
use Rattle.plain_kernel.proofs.Orders.{opened_orderly}
use Rattle.plain_kernel.proofs.kernel.PlainKernel.new.Goals as goal

pub invariant_of-result : goal.invariant_of-result
invariant_of-result c =
    let listed : IsListed c.in_ok-next.next = search rules in
    let core : c.in_ok-next.next.core ≡ opening_core c.scene.inside.apps = search rules in (
      listed.names,
      listed.room,
      listed.statuses,
      opened_orderly (record { apps = c.scene.inside.apps; clients = c.scene.inside.clients; queue = c.scene.inside.queue; turns = c.scene.inside.turns }) c.in_ok-next.next.core core,
    )
