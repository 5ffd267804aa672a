use Rattle.std.proofs.Common.{ap, sym, ◌∙◌}
use Rattle.std.specs.Prelude.{option_copied}
use Rattle.app_life.proofs.Joined.{runs_here, life_runs}
use Rattle.app_life.proofs.apps.Apps.runs.Goals as goal

pub returns-in-Some : goal.returns-in-Some
returns-in-Some c = rw (← c.self.view_is) (ap life_runs (ap option_copied (sym c.in-Some.is) ∙ c.get.ensures) ∙ sym (runs_here _ _ c.args.app.0 c.self.invariant.same))

pub returns-in-None : goal.returns-in-None
returns-in-None c = rw (← c.self.view_is) (ap life_runs (ap option_copied (sym c.in-None.is) ∙ c.get.ensures) ∙ sym (runs_here _ _ c.args.app.0 c.self.invariant.same))
