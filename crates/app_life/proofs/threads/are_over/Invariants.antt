use Rattle.std.proofs.Common.{◌≡◌, drop}
use Rattle.std.specs.List.{list_all}
use Rattle.app_life.specs.Lives.{is_elsewhere_or_over}
use Rattle.app_life.proofs.threads.are_over.Given as goal

abbrev pub invariant-loop-thread : goal.invariant-loop-thread
invariant-loop-thread l = list_all (is_elsewhere_or_over l.app.0) (drop l.thread-index l.threads) ≡ list_all (is_elsewhere_or_over l.app.0) l.threads
