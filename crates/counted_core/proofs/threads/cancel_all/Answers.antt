use Rattle.std.proofs.Common.{arith, ap, ◌∙◌}
use Rattle.kernel_types.specs.CoreStep.{cancelled_activity}
use Rattle.kernel_types.specs.Objects.{map_at}
use Rattle.kernel_types.specs.Threads.{activity_changed}
use Rattle.counted_core.proofs.Walks.{all_mapped, next_mapped}
use Rattle.counted_core.proofs.threads.cancel_all.Goals as goal

pub loop-at-preserved : goal.loop-at-preserved
loop-at-preserved c =
    c.cancel_at.ensures ∙ (ap (λ l. map_at (activity_changed cancelled_activity) l c.loop-at.at) c.loop-at.invariant ∙ next_mapped (activity_changed cancelled_activity) c.loop-at.at c.args.threads.now)

pub returns : goal.returns
returns c = c.loop-at.invariant ∙ all_mapped (activity_changed cancelled_activity) c.loop-at.at c.args.threads.now (omega (arith, c.loop-at-test.false, c.len-at-end.ensures))
