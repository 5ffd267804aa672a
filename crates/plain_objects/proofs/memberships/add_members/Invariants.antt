use Rattle.std.proofs.Common.{◌≡◌, ◌++◌, map, take}
use Rattle.kernel_types.specs.Names.{held_by}
use Rattle.plain_objects.proofs.memberships.add_members.Given as goal

abbrev pub invariant-loop-member : goal.invariant-loop-member
invariant-loop-member l = l.names ≡ l.initial.names ++ map (held_by l.holder) (map (λ member. member.object) (take l.member-index l.members))
