use Rattle.std.proofs.Common.{◌+◌, drop, ◌≡◌}
use Rattle.std.specs.List.{position_or_len}
use Rattle.kernel_types.specs.Events.{is_filled}
use Rattle.plain_objects.proofs.queues.place_of_filled.Given as goal

abbrev pub invariant-loop-at : goal.invariant-loop-at
invariant-loop-at l = l.at + position_or_len is_filled (drop l.at l.messages) ≡ position_or_len is_filled l.messages
