use Rattle.std.proofs.Common.{◌≡◌}
use Rattle.kernel_types.specs.CoreStep.{cancelled_activity}
use Rattle.kernel_types.specs.Threads.{activity_changed}
use Rattle.counted_core.specs.Walking.{mapped_to}
use Rattle.counted_core.proofs.threads.cancel_all.Given as goal

abbrev pub invariant-loop-at : goal.invariant-loop-at
invariant-loop-at l = l.threads ≡ mapped_to (activity_changed cancelled_activity) l.at l.initial.threads
