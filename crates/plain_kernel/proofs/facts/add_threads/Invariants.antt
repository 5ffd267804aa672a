use Rattle.std.proofs.Common.{◌≡◌, ◌++◌, map, take}
use Rattle.kernel_types.specs.CoreStep.{status_of}
use Rattle.plain_kernel.proofs.facts.add_threads.Given as goal

abbrev pub invariant-loop-thread : goal.invariant-loop-thread
invariant-loop-thread l = l.statuses ≡ l.initial.statuses ++ map (λ thread. status_of thread.activity) (take l.thread-index l.threads)
