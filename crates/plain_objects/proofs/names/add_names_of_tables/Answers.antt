use Rattle.std.proofs.Common.{◌≤◌, ◌+◌, length, vec_capacity, subst, sym, arith}
use Rattle.std.specs.List.{flat_map}
use Rattle.kernel_types.specs.Names.{table_names}
use Rattle.plain_objects.proofs.Rooms.{next_piece}
use Rattle.plain_objects.proofs.names.add_names_of_tables.Goals as goal

pub add_table_names-requires : goal.add_table_names-requires
add_table_names-requires c =
    let at = c.loop-app in
    let fits : length c.args.names.now.items + length (flat_map table_names c.args.apps.now) ≤ vec_capacity at.names = omega (arith, c.requires, at.invariant.1) in
    subst (λ item. length at.names.items + length (table_names item) ≤ vec_capacity at.names) (sym c.app-item.is)
    (next_piece table_names c.args.names.now.items at.names.items c.args.apps.now at.app-index (vec_capacity at.names) _ c.loop-app-test.true at.invariant.0 fits)
