use Rattle.app_life.proofs.Within.{within-waiting}
use Rattle.app_life.proofs.apps.Apps.set_waiting.Goals as goal

pub invariant_of-self : goal.invariant_of-self
invariant_of-self c = record { same = c.self.invariant.same; within = rw (c.set_thread_waiting.ensures, within-waiting) c.self.invariant.within }
