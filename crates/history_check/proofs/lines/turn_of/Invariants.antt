-- The line begins with no name in front of the place.
use Rattle.std.proofs.Common.{◌<◌, ℕ}
use Rattle.history_check.specs.Fronts.{IsNamed}
use Rattle.history_check.proofs.lines.turn_of.Given as goal

abbrev pub invariant-loop-actor : goal.invariant-loop-actor
invariant-loop-actor l = (n : ℕ) → n < l.actor → IsNamed l.all l.said n → ⊥
