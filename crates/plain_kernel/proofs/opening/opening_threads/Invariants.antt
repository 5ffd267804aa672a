use Rattle.std.proofs.Common.{◌++◌, drop, ◌≡◌}
use Rattle.std.specs.List.{flat_map, enumerate_from}
use Rattle.plain_objects.specs.Predicates.{place_threads}
use Rattle.plain_kernel.proofs.opening.opening_threads.Given as goal

abbrev pub invariant-loop-app : goal.invariant-loop-app
invariant-loop-app l = l.threads ++ flat_map place_threads (enumerate_from l.place (drop l.app-index l.apps)) ≡ flat_map place_threads (enumerate_from 0 l.apps)
