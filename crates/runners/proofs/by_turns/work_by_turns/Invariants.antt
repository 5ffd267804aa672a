use Rattle.std.proofs.Common.{◌≡◌, length}
use Rattle.std.specs.Prelude.{All}
use Rattle.runners.specs.Workers.{Serves}
use Rattle.runners.proofs.by_turns.work_by_turns.Given as goal

abbrev pub invariant-loop : goal.invariant-loop
invariant-loop g l = record { all : All (Serves l.turnstile) l.workers.items; len : length l.workers.items ≡ length l.initial.workers.items }
