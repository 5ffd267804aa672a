use Rattle.std.proofs.Common.{◌≡◌, ◌++◌, map, take, vec_capacity}
use Rattle.kernel_types.specs.Names.{held_by}
use Rattle.plain_objects.proofs.names.add_member_names.Given as goal

abbrev pub invariant-loop-member : goal.invariant-loop-member
invariant-loop-member l = (l.names.items ≡ l.initial.names.items ++ map (held_by l.holder) (map (λ member. member.object) (take l.member-index l.members))) × (vec_capacity l.names ≡ vec_capacity l.initial.names)
