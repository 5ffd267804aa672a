use Rattle.std.proofs.Common.{◌≡◌, ◌+◌, length}
use Rattle.std.specs.Prelude.{All}
use Rattle.runners.specs.Workers.{Rests, Serves}
use Rattle.runners.proofs.running.passes_of.Given as goal

abbrev pub invariant-loop-worker : goal.invariant-loop-worker
invariant-loop-worker g l = record {
  workers : All (Serves l.turnstile) l.workers.items;
  passes : All (Rests l.turnstile) l.passes.items;
  len : length l.passes.items + length l.workers.items ≡ length l.fn.workers.items + 1;
}

abbrev pub decreases-loop-worker : goal.decreases-loop-worker
decreases-loop-worker g l = length l.workers.items
