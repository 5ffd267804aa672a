use Rattle.std.proofs.Common.{sym, ◌∙◌}
use Rattle.app_life.proofs.Joined.{length-applications}
use Rattle.app_life.proofs.apps.Apps.len.Goals as goal

pub returns : goal.returns
returns c = rw (← c.self.view_is) (c.len.ensures ∙ sym (length-applications _ _ c.self.invariant.same))
