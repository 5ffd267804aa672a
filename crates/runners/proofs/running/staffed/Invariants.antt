use Rattle.std.proofs.Common.{◌≡◌, length}
use Rattle.std.specs.Prelude.{All}
use Rattle.runners.specs.Workers.{Rests, Serves}
use Rattle.runners.proofs.running.staffed.Given as goal

abbrev pub invariant-loop-actor : goal.invariant-loop-actor
invariant-loop-actor g l = record {
  rests : Rests l.turnstile l.pass;
  all : All (Serves l.turnstile) l.workers.items;
  len : length l.workers.items ≡ l.actor;
}
