use Rattle.std.proofs.Common.{◌≡◌, ◌++◌, map, take, drop}
use Rattle.app_life.specs.Lives.{started_thread}
use Rattle.app_life.proofs.threads.start_threads.Given as goal

abbrev pub invariant-loop-at : goal.invariant-loop-at
invariant-loop-at l = l.threads ≡ map (started_thread l.app.0 l.start) (take l.at l.initial.threads) ++ drop l.at l.initial.threads
