use Rattle.std.proofs.Common.{◌≡◌, ◌+◌, ◌*◌, drop}
use Rattle.std.specs.List.{list_any}
use Rattle.handle_set.specs.Chains.{objects_in, objects_of}
use Rattle.handle_set.specs.Within.{is_within}
use Rattle.handle_set.proofs.adding.+within.Given as goal

abbrev pub decreases-is_within : goal.decreases-is_within
decreases-is_within l = 2 * l.depth

abbrev pub decreases-any_within : goal.decreases-any_within
decreases-any_within l = 2 * l.depth + 1

abbrev pub invariant-any_within-loop-at : goal.invariant-any_within-loop-at
invariant-any_within-loop-at l = list_any (is_within l.depth (objects_of l.sets) l.inner) (objects_in (drop l.at l.list)) ≡ list_any (is_within l.depth (objects_of l.sets) l.inner) (objects_in l.list)
