use Rattle.std.specs.List.{list_any}
use Rattle.kernel_types.specs.Waits.{thread_may_move}
use Rattle.std.proofs.Common.{drop, ◌≡◌}
use Rattle.plain_waits.proofs.waits.any_may_move.Given as goal

abbrev pub invariant-loop-thread : goal.invariant-loop-thread
invariant-loop-thread l = list_any (thread_may_move l.core) (drop l.thread-index l.thread-items) ≡ list_any (thread_may_move l.core) l.thread-items
