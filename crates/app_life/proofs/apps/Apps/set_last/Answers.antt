use Rattle.std.proofs.Common.{refl}
use Rattle.app_life.proofs.Joined.{reported-applications}
use Rattle.app_life.proofs.apps.Apps.set_last.Goals as goal

pub returns : goal.returns
returns c = rw (← c.self.view_is, c.report_life.ensures, reported-applications) refl
