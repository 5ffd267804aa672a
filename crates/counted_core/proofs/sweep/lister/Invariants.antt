use Rattle.std.proofs.Common.{◌≡◌, ◌<◌, ℕ, false}
use Rattle.counted_core.specs.Held.{lists_at}
use Rattle.counted_core.proofs.sweep.lister.Given as goal

abbrev pub invariant-loop-at : goal.invariant-loop-at
invariant-loop-at l = (port : ℕ) → port < l.at → lists_at l.store.items port l.server ≡ false
