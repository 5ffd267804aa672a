use Rattle.app_life.proofs.Within.{within-finished}
use Rattle.app_life.proofs.apps.Apps.finish.Goals as goal

pub invariant_of-self : goal.invariant_of-self
invariant_of-self c = record { same = c.self.invariant.same; within = rw (c.end_thread.ensures, within-finished) c.self.invariant.within }
