use Rattle.std.proofs.Common.{◌≡◌, drop}
use Rattle.handle_set.specs.Members.{is_label_in}
use Rattle.handle_set.proofs.members.has_label.Given as goal

abbrev pub invariant-loop-at : goal.invariant-loop-at
invariant-loop-at l = is_label_in (drop l.at l.list) l.label ≡ is_label_in l.list l.label
