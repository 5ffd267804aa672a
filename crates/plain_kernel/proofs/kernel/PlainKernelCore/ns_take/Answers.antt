use Rattle.std.proofs.Common.{◌≡◌, ap, subst, sym, ◌∙◌}
use Rattle.kernel_types.specs.Bridge.{Change, ns_take}
use Rattle.plain_kernel.specs.CoreSteps.{core_statuses}
use Rattle.plain_kernel.specs.Orderly.{IsOrderly}
use Rattle.plain_kernel.specs.Steps.{whole}
use Rattle.plain_kernel.proofs.Orders.{taken_orderly}
use Rattle.plain_kernel.proofs.Statuses.{taken_statuses}
use Rattle.plain_kernel.proofs.kernel.PlainKernelCore.ns_take.Goals as goal

pub invariant_of-self : goal.invariant_of-self
invariant_of-self c =
    let core_is : c.take.new.core ≡ (ns_take c.self.inside.core c.args.end.0).core = sym (ap (λ (change : Change). change.core) c.take.ensures.core) in (
      c.take.ensures.names,
      c.take.ensures.fits,
      c.self.invariant.2 ∙ sym (ap core_statuses core_is ∙ taken_statuses c.args.end.0 c.self.inside.core),
      subst (λ core. IsOrderly (whole core c.self.inside.queue)) (sym core_is) (taken_orderly (whole c.self.inside.core c.self.inside.queue) c.args.end.0 c.self.invariant.3),
    )
