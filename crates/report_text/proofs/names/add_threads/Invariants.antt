-- The threads in front of the place are named.
use Rattle.std.proofs.Common.{◌≡◌, ◌++◌, map}
use Rattle.std.specs.List.{range_with_len}
use Rattle.report_text.specs.Names.{thread_name}
use Rattle.report_text.proofs.names.add_threads.Given as goal

abbrev pub invariant-loop-thread : goal.invariant-loop-thread
invariant-loop-thread l = l.names ≡ l.fn.names ++ map (thread_name l.app.name) (range_with_len 0 l.thread)
