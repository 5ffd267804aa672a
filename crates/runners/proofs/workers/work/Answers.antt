use Rattle.std.proofs.Common.{◌∙◌, ap}
use Rattle.kernel_values.specs.declared.ids.ActorId.{ActorId}
use Rattle.turnstile.specs.Passes.{view}
use Rattle.runners.proofs.Working.{went_on}
use Rattle.runners.proofs.workers.work.Goals as goal

pub returns-in_err-worked-clause-went_on : goal.returns-in_err-worked-clause-went_on
returns-in_err-worked-clause-went_on g c =
    went_on c.args.actor.0 c.loop.progress.actor.0 (view c.args.pass.now) (view c.loop.pass) (view c.attend.new.pass) c.loop.invariant.actor c.loop.invariant.went_on c.attend.ensures.went_on

pub returns-in-Ended-clause-went_on : goal.returns-in-Ended-clause-went_on
returns-in-Ended-clause-went_on g c =
    went_on c.args.actor.0 c.loop.progress.actor.0 (view c.args.pass.now) (view c.loop.pass) (view c.attend.new.pass) c.loop.invariant.actor c.loop.invariant.went_on c.attend.ensures.went_on

pub loop-preserved-in-GoesOn : goal.loop-preserved-in-GoesOn
loop-preserved-in-GoesOn g c = record {
  rests = c.attend.ensures.pass;
  actor = ap (λ (a : ActorId). a.0) c.attend.ensures.actor ∙ c.loop.invariant.actor;
  went_on = went_on c.args.actor.0 c.loop.progress.actor.0 (view c.args.pass.now) (view c.loop.pass) (view c.attend.new.pass) c.loop.invariant.actor c.loop.invariant.went_on c.attend.ensures.went_on;
}

pub loop-preserved : goal.loop-preserved
loop-preserved g c = record {
  rests = c.attend.ensures.pass;
  actor = ap (λ (a : ActorId). a.0) c.attend.ensures.actor ∙ c.loop.invariant.actor;
  went_on = went_on c.args.actor.0 c.loop.progress.actor.0 (view c.args.pass.now) (view c.loop.pass) (view c.attend.new.pass) c.loop.invariant.actor c.loop.invariant.went_on c.attend.ensures.went_on;
}
