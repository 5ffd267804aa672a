use Rattle.std.proofs.Common.{◌≡◌, not, take}
use Rattle.std.specs.List.{filter}
use Rattle.kernel_types.specs.Sets.{has_label}
use Rattle.plain_waits.proofs.sets.members_without.Given as goal

abbrev pub invariant-loop-member : goal.invariant-loop-member
invariant-loop-member l = l.others ≡ filter (λ member. not (has_label l.label member)) (take l.member-index l.members)
