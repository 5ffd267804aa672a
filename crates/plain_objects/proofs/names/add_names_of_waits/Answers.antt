use Rattle.std.proofs.Common.{◌≤◌, ◌+◌, length, vec_capacity, arith}
use Rattle.std.specs.List.{flat_map}
use Rattle.kernel_types.specs.Names.{wait_names}
use Rattle.plain_objects.proofs.Rooms.{next_piece}
use Rattle.plain_objects.proofs.names.add_names_of_waits.Goals as goal

pub add_wait_names-requires : goal.add_wait_names-requires
add_wait_names-requires c =
    let at = c.loop-thread in
    let fits : length c.args.names.now.items + length (flat_map wait_names c.args.threads.now) ≤ vec_capacity at.names = omega (arith, c.requires, at.invariant.1) in
    next_piece wait_names c.args.names.now.items at.names.items c.args.threads.now at.thread-index (vec_capacity at.names) _ c.loop-thread-test.true at.invariant.0 fits
