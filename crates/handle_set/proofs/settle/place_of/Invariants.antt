use Rattle.std.proofs.Common.{◌+◌, drop, ◌≡◌}
use Rattle.std.specs.List.{position_or_len}
use Rattle.handle_set.specs.Sets.{has_id}
use Rattle.handle_set.proofs.settle.place_of.Given as goal

abbrev pub invariant-loop-at : goal.invariant-loop-at
invariant-loop-at l = l.at + position_or_len (has_id l.id) (drop l.at l.sets) ≡ position_or_len (has_id l.id) l.sets
