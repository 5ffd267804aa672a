use Rattle.std.proofs.Common.{◌≡◌, drop}
use Rattle.std.specs.List.{flat_map, fold}
use Rattle.object_store.specs.Stock.{unnamed}
use Rattle.counted_core.specs.Retiring.{opened_parts}
use Rattle.counted_core.proofs.messages.unname_opened.Given as goal

abbrev pub invariant-loop-message : goal.invariant-loop-message
invariant-loop-message l = (fold unnamed l.store.items (flat_map (opened_parts l.id) (drop l.message-index l.messages)) ≡ fold unnamed l.initial.store.items (flat_map (opened_parts l.id) l.messages)) × (l.store.next ≡ l.initial.store.next)
