use Rattle.std.proofs.Common.{◌≡◌, ◌++◌, map, take, vec_capacity}
use Rattle.kernel_types.specs.Names.{held_by, message_objects}
use Rattle.plain_objects.proofs.names.add_message_names.Given as goal

abbrev pub invariant-loop-message : goal.invariant-loop-message
invariant-loop-message l = (l.names.items ≡ l.initial.names.items ++ map (held_by l.holder) (message_objects (take l.message-index l.messages))) × (vec_capacity l.names ≡ vec_capacity l.initial.names)
