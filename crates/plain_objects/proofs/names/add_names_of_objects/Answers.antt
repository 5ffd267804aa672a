use Rattle.std.proofs.Common.{◌≤◌, ◌+◌, length, vec_capacity, subst, sym, arith}
use Rattle.std.specs.List.{flat_map}
use Rattle.kernel_types.specs.Names.{object_names}
use Rattle.plain_objects.proofs.Rooms.{next_piece}
use Rattle.plain_objects.proofs.names.add_names_of_objects.Goals as goal

pub add_object_names-requires : goal.add_object_names-requires
add_object_names-requires c =
    let at = c.loop-object in
    let fits : length c.args.names.now.items + length (flat_map object_names c.args.objects.now) ≤ vec_capacity at.names = omega (arith, c.requires, at.invariant.1) in
    subst (λ item. length at.names.items + length (object_names item) ≤ vec_capacity at.names) (sym c.object-item.is)
    (next_piece object_names c.args.names.now.items at.names.items c.args.objects.now at.object-index (vec_capacity at.names) _ c.loop-object-test.true at.invariant.0 fits)
