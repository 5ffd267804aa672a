use Rattle.std.proofs.Common.{◌≡◌, drop}
use Rattle.std.specs.List.{list_any}
use Rattle.handle_set.specs.Members.{has_object}
use Rattle.handle_set.proofs.members.has_object.Given as goal

abbrev pub invariant-loop-at : goal.invariant-loop-at
invariant-loop-at l = list_any (has_object l.object) (drop l.at l.list) ≡ list_any (has_object l.object) l.list
