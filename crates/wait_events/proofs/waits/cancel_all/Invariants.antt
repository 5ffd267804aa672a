use Rattle.std.proofs.Common.{◌≡◌}
use Rattle.std.specs.Option.{option_map}
use Rattle.handle_set.proofs.Turns.{so_far}
use Rattle.wait_events.specs.Waits.{with_cancelled}
use Rattle.wait_events.proofs.waits.cancel_all.Given as goal

abbrev pub invariant-loop-at : goal.invariant-loop-at
invariant-loop-at l = l.actors ≡ so_far (option_map with_cancelled) l.at l.initial.actors
