use Rattle.plain_kernel.specs.Value.{state_of}
use Rattle.plain_kernel.proofs.Orders.{connected_orderly}
use Rattle.plain_kernel.proofs.kernel.PlainKernelCore.ns_connect.Goals as goal

pub move_to-requires-clause-orderly : goal.move_to-requires-clause-orderly
move_to-requires-clause-orderly c = connected_orderly (state_of c.args.self.now) c.in_ok-next.next.core c.args.path.now c.in_ok-next.ensures.done.1
