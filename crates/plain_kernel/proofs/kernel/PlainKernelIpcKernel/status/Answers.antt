use Rattle.std.proofs.Common.{rules, ◌≡◌, ◌<◌, length, None, subst, sym}
use Rattle.std.specs.Prelude.{slice_get}
use Rattle.kernel_types.specs.Step.{statuses}
use Rattle.plain_kernel.specs.CoreSteps.{core_statuses}
use Rattle.plain_kernel.specs.Value.{state_of}
use Rattle.plain_kernel.proofs.Clientless.{none_beyond}
use Rattle.plain_kernel.proofs.kernel.PlainKernelIpcKernel.status.Goals as goal

pub unreachable-requires : goal.unreachable-requires
unreachable-requires c =
    let none : slice_get (core_statuses c.self.inside.core) c.args.actor.0 ≡ None = search rules in
    none_beyond c.self.inside.core c.self.inside.queue c.args.actor.0 none (subst (λ v. c.args.actor.0 < length (statuses (state_of v))) (sym c.self.view_is) c.requires)
