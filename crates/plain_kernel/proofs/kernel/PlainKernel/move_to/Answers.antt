use Rattle.std.proofs.Common.{subst, sym}
use Rattle.plain_kernel.specs.Orderly.{IsOrderly}
use Rattle.plain_kernel.specs.Value.{state_of}
use Rattle.plain_kernel.specs.Steps.{whole}
use Rattle.plain_kernel.proofs.kernel.PlainKernel.move_to.Goals as goal

pub invariant_of-self : goal.invariant_of-self
invariant_of-self c =
    let before : IsOrderly (state_of c.args.self.now) = subst (λ v. IsOrderly (state_of v)) c.self.view_is c.self.invariant.3 in (
      c.requires.listed.names,
      c.requires.listed.room,
      c.requires.listed.statuses,
      subst (λ v. IsOrderly (whole c.args.next.core v.queue)) (sym c.self.view_is) (c.requires.orderly before),
    )

pub returns-clause-before : goal.returns-clause-before
returns-clause-before c = subst (λ v. IsOrderly (state_of v)) c.self.view_is c.self.invariant.3
