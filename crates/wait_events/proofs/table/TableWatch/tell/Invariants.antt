use Rattle.std.proofs.Common.{◌≡◌, length}
use Rattle.handle_set.proofs.Turns.{so_far}
use Rattle.wait_events.specs.Watches.{retold}
use Rattle.wait_events.proofs.table.TableWatch.tell.Given as goal

abbrev pub invariant-loop-at : goal.invariant-loop-at
invariant-loop-at l = (l.self ≡ so_far (retold l.sets.sets l.object.serial l.events) l.at l.initial.self) × (length l.initial.self ≡ 64)
