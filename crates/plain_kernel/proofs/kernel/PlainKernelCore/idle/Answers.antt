use Rattle.std.proofs.Common.{◌≡◌, length, ap, subst, sym, ◌∙◌, arith}
use Rattle.kernel_types.specs.CoreStep.{core_idle}
use Rattle.kernel_types.specs.Names.{naming}
use Rattle.kernel_types.specs.Sweep.{sweep}
use Rattle.plain_kernel.specs.CoreSteps.{core_statuses}
use Rattle.plain_kernel.specs.Orderly.{IsOrderly}
use Rattle.plain_kernel.specs.Steps.{whole}
use Rattle.plain_kernel.proofs.Clientless.{idled_statuses}
use Rattle.plain_objects.proofs.Fewer.{idled_naming}
use Rattle.plain_kernel.proofs.Orders.{idled_orderly}
use Rattle.plain_kernel.proofs.kernel.PlainKernelCore.idle.Goals as goal

pub sweep_within-requires : goal.sweep_within-requires
sweep_within-requires c =
    let same : naming c.idle_by.new.core ≡ naming c.self.inside.core = ap naming c.idle_by.ensures ∙ idled_naming c.args.clock c.self.inside.core in
    omega (arith, ap length same, c.self.invariant.1)

pub invariant_of-self : goal.invariant_of-self
invariant_of-self c =
    let swept : c.sweep_within.new.core ≡ sweep (core_idle c.args.clock c.self.inside.core) = c.sweep_within.ensures.core ∙ ap sweep c.idle_by.ensures in (
      c.sweep_within.ensures.names,
      c.sweep_within.ensures.fits,
      c.self.invariant.2 ∙ sym (ap core_statuses swept ∙ idled_statuses c.args.clock c.self.inside.core),
      subst (λ core. IsOrderly (whole core c.self.inside.queue)) (sym swept) (idled_orderly (whole c.self.inside.core c.self.inside.queue) c.args.clock c.self.invariant.3),
    )
