use Rattle.std.specs.List.{find}
use Rattle.kernel_types.specs.Events.{is_filled}
use Rattle.std.proofs.Common.{drop, ◌≡◌}
use Rattle.plain_objects.proofs.queues.find_filled.Given as goal

abbrev pub invariant-loop-message : goal.invariant-loop-message
invariant-loop-message l = find is_filled (drop l.message-index l.messages) ≡ find is_filled l.messages
