use Rattle.std.specs.List.{find, range_with_len}
use Rattle.kernel_types.specs.Messages.{is_free_id}
use Rattle.std.proofs.Common.{◌-◌, ◌≡◌}
use Rattle.plain_objects.proofs.queues.free_id_below.Given as goal

abbrev pub invariant-loop-id : goal.invariant-loop-id
invariant-loop-id l = find (is_free_id l.messages) (range_with_len l.id (l.limit - l.id)) ≡ find (is_free_id l.messages) (range_with_len 1 (l.limit - 1))
