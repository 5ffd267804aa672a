use Rattle.plain_kernel.specs.Value.{state_of}
use Rattle.plain_kernel.proofs.Orders.{next_fits, next_orderly}
use Rattle.plain_kernel.proofs.kernel.PlainKernelIpcKernel.step.Goals as goal

pub move_to-requires-clause-orderly : goal.move_to-requires-clause-orderly
move_to-requires-clause-orderly c = next_orderly c.args.event (state_of c.args.self.now) c.args.self.now.made c.in-Ok.next c.in-Ok.told c.in-Ok.ensures.done

pub returns-in-Ok-clause-fits : goal.returns-in-Ok-clause-fits
returns-in-Ok-clause-fits c =
    next_fits c.args.event (state_of c.args.self.now) c.args.self.now.made c.in-Ok.next c.in-Ok.told c.in-Ok.ensures.done c.move_to.ensures.before
