use Rattle.std.proofs.Common.{◌≡◌, ◌++◌, map, take, drop}
use Rattle.handle_set.specs.Members.{with_told}
use Rattle.handle_set.proofs.members.tell.Given as goal

abbrev pub invariant-loop-at : goal.invariant-loop-at
invariant-loop-at l = l.list ≡ map (with_told l.object l.events) (take l.at l.initial.list) ++ drop l.at l.initial.list
