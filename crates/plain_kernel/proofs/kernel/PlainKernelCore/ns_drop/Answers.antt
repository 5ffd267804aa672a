use Rattle.std.proofs.Common.{ap, subst, sym, ◌∙◌}
use Rattle.plain_kernel.specs.CoreSteps.{core_statuses}
use Rattle.plain_kernel.specs.Orderly.{IsOrderly}
use Rattle.plain_kernel.specs.Steps.{whole}
use Rattle.plain_kernel.proofs.Orders.{dropped_orderly}
use Rattle.plain_kernel.proofs.Statuses.{dropped_statuses}
use Rattle.plain_kernel.proofs.kernel.PlainKernelCore.ns_drop.Goals as goal

pub invariant_of-self : goal.invariant_of-self
invariant_of-self c = (
  c.drop_end.ensures.names,
  c.drop_end.ensures.fits,
  c.self.invariant.2 ∙ sym (ap core_statuses c.drop_end.ensures.core ∙ dropped_statuses c.args.broken c.args.end.0 c.self.inside.core),
  subst (λ core. IsOrderly (whole core c.self.inside.queue)) (sym c.drop_end.ensures.core)
      (dropped_orderly (whole c.self.inside.core c.self.inside.queue) c.args.broken c.args.end.0 c.self.invariant.3),
)
