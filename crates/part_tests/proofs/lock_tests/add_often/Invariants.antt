use Rattle.std.proofs.Common.{◌≡◌, false}
use Rattle.turnstile.specs.Nowhere.{nowhere}
use Rattle.turnstile.specs.Names.{IsPassOf}
use Rattle.turnstile.specs.Passes.{view}
use Rattle.part_tests.proofs.lock_tests.add_often.Given as goal

abbrev pub invariant-loop : goal.invariant-loop
invariant-loop g l = IsPassOf (λ _. nowhere) l.turnstile l.pass × ((view l.pass).has_turn ≡ false)
