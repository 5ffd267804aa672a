use Rattle.std.specs.List.{list_any}
use Rattle.std.proofs.Common.{◌==◌, map, drop, ◌≡◌}
use Rattle.plain_waits.proofs.depths.is_member.Given as goal

abbrev pub invariant-loop-member : goal.invariant-loop-member
invariant-loop-member l = list_any (λ member. member == l.id) (map (λ member. member.object) (drop l.member-index l.members)) ≡ list_any (λ member. member == l.id) (map (λ member. member.object) l.members)
