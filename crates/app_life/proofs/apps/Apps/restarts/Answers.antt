use Rattle.std.proofs.Common.{ap, sym, ◌∙◌}
use Rattle.std.specs.Prelude.{option_copied}
use Rattle.app_life.proofs.Joined.{restarts_here, manifest_restarts}
use Rattle.app_life.proofs.apps.Apps.restarts.Goals as goal

pub returns-in-Some : goal.returns-in-Some
returns-in-Some c = rw (← c.self.view_is) (ap manifest_restarts (ap option_copied (sym c.in-Some.is) ∙ c.get.ensures) ∙ sym (restarts_here _ _ c.args.app.0 c.self.invariant.same))

pub returns-in-None : goal.returns-in-None
returns-in-None c = rw (← c.self.view_is) (ap manifest_restarts (ap option_copied (sym c.in-None.is) ∙ c.get.ensures) ∙ sym (restarts_here _ _ c.args.app.0 c.self.invariant.same))
