use Rattle.std.proofs.Common.{◌≡◌, map}
use Rattle.handle_set.proofs.Turns.{so_far}
use Rattle.wait_events.specs.Watches.{retold}
use Rattle.wait_events.proofs.waits.tell_tables.Given as goal

abbrev pub invariant-loop-app : goal.invariant-loop-app
invariant-loop-app l = l.tables ≡ so_far (map (retold l.sets.sets l.object.serial l.events)) l.app l.initial.tables
