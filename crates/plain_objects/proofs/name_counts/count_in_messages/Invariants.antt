use Rattle.std.proofs.Common.{◌≡◌, length, take}
use Rattle.kernel_types.specs.Names.{message_objects}
use Rattle.plain_objects.proofs.name_counts.count_in_messages.Given as goal

abbrev pub invariant-loop-message : goal.invariant-loop-message
invariant-loop-message l = l.count ≡ length (message_objects (take l.message-index l.messages))
