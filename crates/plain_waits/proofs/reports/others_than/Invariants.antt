use Rattle.std.proofs.Common.{◌≡◌, not, ◌==◌, take}
use Rattle.std.specs.List.{filter}
use Rattle.plain_waits.proofs.reports.others_than.Given as goal

abbrev pub invariant-loop-member : goal.invariant-loop-member
invariant-loop-member l = l.others ≡ filter (λ other. not (other.label == l.label)) (take l.member-index l.members)
