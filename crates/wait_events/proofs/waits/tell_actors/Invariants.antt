use Rattle.std.proofs.Common.{◌≡◌}
use Rattle.std.specs.Option.{option_map}
use Rattle.handle_set.proofs.Turns.{so_far}
use Rattle.wait_events.specs.Waits.{retold_wait}
use Rattle.wait_events.proofs.waits.tell_actors.Given as goal

abbrev pub invariant-loop-at : goal.invariant-loop-at
invariant-loop-at l = l.actors ≡ so_far (option_map (retold_wait l.sets.sets l.object.serial l.events)) l.at l.initial.actors
