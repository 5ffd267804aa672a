use Rattle.app_life.proofs.Joined.{length-applications}
use Rattle.app_life.proofs.Within.{within_at}
use Rattle.app_life.proofs.apps.Apps.app_of.Goals as goal

pub returns-clause-within : goal.returns-clause-within
returns-clause-within c =
    let less = rw (← c.self.view_is) at c.requires in
    rw (← c.self.view_is, length-applications _ _ c.self.invariant.same, c.as_slice.ensures) (within_at _ _ _ _ c.self.invariant.within less)
