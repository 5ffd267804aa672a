use Rattle.std.proofs.Common.{◌+◌, drop, ◌≡◌}
use Rattle.std.specs.List.{position_or_len}
use Rattle.kernel_types.specs.Sets.{has_label}
use Rattle.counted_core.proofs.members.place_of_label.Given as goal

abbrev pub invariant-loop-at : goal.invariant-loop-at
invariant-loop-at l = l.at + position_or_len (has_label l.label) (drop l.at l.members) ≡ position_or_len (has_label l.label) l.members
