use Rattle.std.proofs.Common.{◌≡◌, length}
use Rattle.std.specs.Prelude.{All}
use Rattle.runners.specs.Workers.{Serves}
use Rattle.runners.proofs.by_turns.attend_all.Given as goal

abbrev pub invariant-loop-at : goal.invariant-loop-at
invariant-loop-at g l = record { all : All (Serves l.turnstile) l.workers.items; len : length l.workers.items ≡ length l.initial.workers.items }
