use Rattle.std.proofs.Common.{◌≡◌, ◌<◌, ℕ, false}
use Rattle.counted_core.specs.Paths.{has_path_at}
use Rattle.counted_core.proofs.ports.first_with_path.Given as goal

abbrev pub invariant-loop-at : goal.invariant-loop-at
invariant-loop-at l = (o : ℕ) → o < l.at → has_path_at l.path l.store.items o ≡ false
