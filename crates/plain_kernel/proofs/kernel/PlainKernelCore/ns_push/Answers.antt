use Rattle.std.proofs.Common.{◌≡◌, ap, subst}
use Rattle.kernel_types.specs.Bridge.{Change, ns_push}
use Rattle.plain_kernel.specs.Orderly.{IsOrderly}
use Rattle.plain_kernel.specs.Value.{state_of}
use Rattle.plain_kernel.specs.Steps.{whole}
use Rattle.plain_kernel.proofs.Orders.{pushed_orderly}
use Rattle.plain_kernel.proofs.kernel.PlainKernelCore.ns_push.Goals as goal

pub move_to-requires-clause-orderly : goal.move_to-requires-clause-orderly
move_to-requires-clause-orderly c = λ kept.
    let sent : (ns_push c.args.self.now.core c.args.end.0 c.args.bytes.now).core ≡ c.in_ok-next.next.core = ap (λ (change : Change). change.core) c.in_ok-next.ensures.1 in
    subst (λ core. IsOrderly (whole core c.args.self.now.queue)) sent (pushed_orderly (state_of c.args.self.now) c.args.end.0 c.args.bytes.now c.requires.room.small kept)
