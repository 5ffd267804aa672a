use Rattle.std.proofs.Common.{◌≡◌}
use Rattle.kernel_log.specs.Books.{places_below}
use Rattle.kernel_log.proofs.journal.own_places.Given as goal

abbrev pub invariant-loop-at : goal.invariant-loop-at
invariant-loop-at l = l.places ≡ places_below l.at l.entries l.actor.0
