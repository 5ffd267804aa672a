use Rattle.std.proofs.Common.{◌≡◌, drop}
use Rattle.std.specs.List.{flat_map, fold}
use Rattle.object_store.specs.Stock.{unnamed}
use Rattle.counted_core.specs.Bridged.{bridged_entry}
use Rattle.counted_core.proofs.bridging.unname_bridged.Given as goal

abbrev pub invariant-loop-other : goal.invariant-loop-other
invariant-loop-other l = (fold unnamed l.store.items (flat_map (bridged_entry l.id) (drop l.other-index l.bridged)) ≡ fold unnamed l.initial.store.items (flat_map (bridged_entry l.id) l.bridged)) × (l.store.next ≡ l.initial.store.next)
