use Rattle.std.proofs.Common.{◌≡◌, drop}
use Rattle.std.specs.List.{flat_map, fold}
use Rattle.object_store.specs.Stock.{unnamed}
use Rattle.counted_core.specs.Members.{labelled_objects}
use Rattle.counted_core.proofs.members.unname_labelled.Given as goal

abbrev pub invariant-loop-member : goal.invariant-loop-member
invariant-loop-member l = (fold unnamed l.store.items (flat_map (labelled_objects l.label) (drop l.member-index l.members)) ≡ fold unnamed l.initial.store.items (flat_map (labelled_objects l.label) l.members)) × (l.store.next ≡ l.initial.store.next)
