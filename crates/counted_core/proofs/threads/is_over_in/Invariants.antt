use Rattle.std.proofs.Common.{◌≡◌, drop}
use Rattle.std.specs.List.{list_all}
use Rattle.kernel_types.specs.Applications.{is_elsewhere_or_over}
use Rattle.counted_core.proofs.threads.is_over_in.Given as goal

abbrev pub invariant-loop-thread : goal.invariant-loop-thread
invariant-loop-thread l = list_all (is_elsewhere_or_over l.app) (drop l.thread-index l.threads) ≡ list_all (is_elsewhere_or_over l.app) l.threads
