use Rattle.std.proofs.Common.{◌+◌, drop, ◌≡◌}
use Rattle.std.specs.List.{position_or_len}
use Rattle.handle_set.specs.Members.{has_label}
use Rattle.handle_set.proofs.members.place_of.Given as goal

abbrev pub invariant-loop-at : goal.invariant-loop-at
invariant-loop-at l = l.at + position_or_len (has_label l.label) (drop l.at l.list) ≡ position_or_len (has_label l.label) l.list
