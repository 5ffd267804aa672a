use Rattle.std.proofs.Common.{◌≡◌, drop, map}
use Rattle.std.specs.List.{fold}
use Rattle.object_store.specs.Stock.{unnamed}
use Rattle.counted_core.proofs.sweep.unname_members.Given as goal

abbrev pub invariant-loop-member : goal.invariant-loop-member
invariant-loop-member l = (fold unnamed l.store.items (map (λ member. member.object) (drop l.member-index l.members)) ≡ fold unnamed l.initial.store.items (map (λ member. member.object) l.members)) × (l.store.next ≡ l.initial.store.next)
