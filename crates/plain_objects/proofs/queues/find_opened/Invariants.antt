use Rattle.std.specs.List.{find}
use Rattle.kernel_types.specs.Messages.{is_opened_as}
use Rattle.std.proofs.Common.{drop, ◌≡◌}
use Rattle.plain_objects.proofs.queues.find_opened.Given as goal

abbrev pub invariant-loop-message : goal.invariant-loop-message
invariant-loop-message l = find (is_opened_as l.id) (drop l.message-index l.messages) ≡ find (is_opened_as l.id) l.messages
