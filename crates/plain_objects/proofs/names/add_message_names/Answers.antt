use Rattle.std.proofs.Common.{◌≤◌, ◌+◌, length, vec_capacity, subst, sym, ap, arith}
use Rattle.kernel_types.specs.Names.{message_objects}
use Rattle.plain_objects.proofs.Rooms.{next_named}
use Rattle.plain_objects.proofs.names.add_message_names.Goals as goal

pub add_all_held-requires : goal.add_all_held-requires
add_all_held-requires c =
    let at = c.loop-message in
    let fits : length c.args.names.now.items + length (message_objects c.args.messages.now) ≤ vec_capacity at.names = omega (arith, c.requires, at.invariant.1) in
    let part : length at.names.items + length c.message-item.result.parts ≤ vec_capacity at.names =
    subst (λ message. length at.names.items + length message.parts ≤ vec_capacity at.names) (sym c.message-item.is)
    (next_named c.args.holder c.args.names.now.items at.names.items c.args.messages.now at.message-index (vec_capacity at.names) _ c.loop-message-test.true at.invariant.0 fits) in
    omega (arith, part, ap length c.as_slice.ensures)
