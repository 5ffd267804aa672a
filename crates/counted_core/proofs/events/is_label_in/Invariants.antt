use Rattle.std.proofs.Common.{◌≡◌, drop}
use Rattle.kernel_types.specs.Sets.{is_label_in}
use Rattle.counted_core.proofs.events.is_label_in.Given as goal

abbrev pub invariant-loop-member : goal.invariant-loop-member
invariant-loop-member l = is_label_in (drop l.member-index l.members) l.label ≡ is_label_in l.members l.label
