use Rattle.std.proofs.Common.{◌≡◌, drop}
use Rattle.std.specs.List.{list_any}
use Rattle.kernel_types.specs.Waits.{thread_may_move}
use Rattle.core_waits.proofs.waits.any_may_move.Given as goal

abbrev pub invariant-loop-thread : goal.invariant-loop-thread
invariant-loop-thread g l =
    list_any (thread_may_move (g.C.CoreChanges.state l.core)) (drop l.thread-index l.thread-items) ≡ list_any (thread_may_move (g.C.CoreChanges.state l.core)) l.thread-items
