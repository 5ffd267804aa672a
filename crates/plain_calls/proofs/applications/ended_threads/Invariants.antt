use Rattle.std.proofs.Common.{◌≡◌, map, take}
use Rattle.kernel_types.specs.Applications.{ended_thread}
use Rattle.plain_calls.proofs.applications.ended_threads.Given as goal

abbrev pub invariant-loop-thread : goal.invariant-loop-thread
invariant-loop-thread l = l.others ≡ map (ended_thread l.app) (take l.thread-index l.threads)
