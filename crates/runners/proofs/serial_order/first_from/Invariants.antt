use Rattle.std.proofs.Common.{◌≡◌, ◌-◌}
use Rattle.std.specs.List.{find, range_with_len}
use Rattle.kernel_types.specs.Turns.{takes_turn}
use Rattle.runners.specs.Runs.{state_told}
use Rattle.runners.proofs.serial_order.first_from.Given as goal

abbrev pub invariant-loop-actor : goal.invariant-loop-actor
invariant-loop-actor g l = find (takes_turn (state_told l.shared)) (range_with_len l.actor (l.to - l.actor)) ≡ find (takes_turn (state_told l.shared)) (range_with_len l.from (l.to - l.from))
