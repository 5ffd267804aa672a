use Rattle.std.proofs.Common.{◌≡◌, ◌++◌, map, take, drop}
use Rattle.kernel_types.specs.Threads.{activity_changed}
use Rattle.kernel_types.specs.CoreStep.{cancelled_activity}
use Rattle.plain_kernel.proofs.step.cancel_all.Given as goal

abbrev pub invariant-loop-at : goal.invariant-loop-at
invariant-loop-at l = l.threads ≡ map (activity_changed cancelled_activity) (take l.at l.initial.threads) ++ drop l.at l.initial.threads
