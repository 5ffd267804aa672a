use Rattle.std.proofs.Common.{refl, sym, ◌∙◌}
use Rattle.turnstile.specs.Passes.{view}
use Rattle.runners.proofs.Working.{went_same}
use Rattle.runners.proofs.workers.enlist.Goals as goal

pub returns-clause-went_on : goal.returns-clause-went_on
returns-clause-went_on g c =
    went_same c.args.actor (view c.args.pass.now) (view c.enter-shared.new.pass) (view c.leave.new.pass) _ _ c.enter-shared.result c.enter-shared.result
    c.enter-shared.ensures.view c.leave.ensures.view (c.requires.pass.0.2.origin_is ∙ sym c.enter-shared.ensures.origin) c.enter-shared.ensures.history.0
    refl refl (record { legal = c.legal.ensures.legal; follows = c.legal.ensures.follows; short = c.legal.ensures.short })
