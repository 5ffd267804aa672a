use Rattle.std.proofs.Common.{◌≡◌, ◌-◌, length, drop}
use Rattle.wait_events.specs.Waits.{least_deadline}
use Rattle.wait_events.proofs.waits.least_of.Given as goal

abbrev pub invariant-loop-done : goal.invariant-loop-done
invariant-loop-done l = l.least ≡ least_deadline (drop (length l.actors - l.done) l.actors)
