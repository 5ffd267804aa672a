use Rattle.std.proofs.Common.{◌≡◌, ◌+◌, drop}
use Rattle.ns_bridge.specs.Wholes.{threads_of}
use Rattle.ns_bridge.proofs.kernel.count_threads.Given as goal

abbrev pub invariant-loop-app : goal.invariant-loop-app
invariant-loop-app l = l.count + threads_of (drop l.app-index l.apps) ≡ threads_of l.apps
