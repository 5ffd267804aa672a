use Rattle.std.proofs.Common.{◌≡◌, ◌++◌, drop}
use Rattle.std.specs.List.{flat_map, enumerate_from}
use Rattle.app_life.specs.Lives.{opening_threads}
use Rattle.app_life.proofs.threads.opening_threads.Given as goal

abbrev pub invariant-loop-app : goal.invariant-loop-app
invariant-loop-app l = record {
  number : l.number ≡ l.app-index;
  threads : l.threads ++ flat_map opening_threads (enumerate_from l.number (drop l.app-index l.apps)) ≡ flat_map opening_threads (enumerate_from 0 l.apps);
}
