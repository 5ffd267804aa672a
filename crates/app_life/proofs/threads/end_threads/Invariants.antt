use Rattle.std.proofs.Common.{◌≡◌, ◌++◌, map, take, drop}
use Rattle.app_life.specs.Lives.{ended_thread_of}
use Rattle.app_life.proofs.threads.end_threads.Given as goal

abbrev pub invariant-loop-at : goal.invariant-loop-at
invariant-loop-at l = l.threads ≡ map (ended_thread_of l.app.0) (take l.at l.initial.threads) ++ drop l.at l.initial.threads
