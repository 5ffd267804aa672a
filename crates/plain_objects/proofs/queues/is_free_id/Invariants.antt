use Rattle.kernel_types.specs.Messages.{is_free_id}
use Rattle.std.proofs.Common.{drop, ◌≡◌}
use Rattle.plain_objects.proofs.queues.is_free_id.Given as goal

abbrev pub invariant-loop-message : goal.invariant-loop-message
invariant-loop-message l = is_free_id (drop l.message-index l.messages) l.id ≡ is_free_id l.messages l.id
