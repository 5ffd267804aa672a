use Rattle.std.proofs.Common.{◌≡◌, drop}
use Rattle.std.specs.List.{fold}
use Rattle.object_store.specs.Stock.{unnamed}
use Rattle.counted_core.proofs.sweep.unname_all.Given as goal

abbrev pub invariant-loop-serial : goal.invariant-loop-serial
invariant-loop-serial l = (fold unnamed l.store.items (drop l.serial-index l.serials) ≡ fold unnamed l.initial.store.items l.serials) × (l.store.next ≡ l.initial.store.next)
