use Rattle.std.proofs.Common.{◌≡◌, ◌+◌, ◌≤◌, length}
use Rattle.object_store.specs.Stock.{total_names}
use Rattle.counted_core.specs.Sweeping.{Sweeping}
use Rattle.counted_core.proofs.sweep.sweep.Given as goal

abbrev pub invariant-loop-turn : goal.invariant-loop-turn
invariant-loop-turn l = Sweeping l.initial.store.items l.store.items × (length l.store.items + l._turn ≤ length l.initial.store.items) × (l.store.next ≡ l.initial.store.next)
    × (total_names l.store.items ≤ total_names l.initial.store.items)
