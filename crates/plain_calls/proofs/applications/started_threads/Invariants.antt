use Rattle.std.proofs.Common.{◌≡◌, map, take}
use Rattle.kernel_types.specs.Applications.{started_thread}
use Rattle.plain_calls.proofs.applications.started_threads.Given as goal

abbrev pub invariant-loop-thread : goal.invariant-loop-thread
invariant-loop-thread l = l.others ≡ map (started_thread l.app l.start) (take l.thread-index l.threads)
