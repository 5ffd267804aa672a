use Rattle.std.proofs.Common.{◌≡◌}
use Rattle.turnstile.specs.Passes.{view}
use Rattle.runners.specs.Workers.{Rests, WentOn}
use Rattle.runners.proofs.workers.work.Given as goal

abbrev pub invariant-loop : goal.invariant-loop
invariant-loop g l = record {
  rests : Rests l.turnstile l.pass;
  actor : l.progress.actor.0 ≡ l.fn.actor.0;
  went_on : WentOn l.fn.actor.0 (view l.fn.pass) (view l.pass);
}
