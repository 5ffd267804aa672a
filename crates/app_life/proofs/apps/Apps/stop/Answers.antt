use Rattle.std.proofs.Common.{refl, sym, ◌∙◌}
use Rattle.app_life.proofs.Changes.{length-changed}
use Rattle.app_life.proofs.Joined.{table_here, stopped-applications}
use Rattle.app_life.proofs.Within.{within-ended}
use Rattle.app_life.proofs.apps.Apps.stop.Goals as goal

pub stop_life-requires : goal.stop_life-requires
stop_life-requires c = let h = rw (← c.self.view_is) at c.requires in sym (table_here _ _ c.args.app.0 c.self.invariant.same) ∙ h

pub invariant_of-self : goal.invariant_of-self
invariant_of-self c = rw (c.stop_life.ensures, c.end_threads.ensures) record {
  same = rw length-changed c.self.invariant.same;
  within = rw (length-changed, within-ended) c.self.invariant.within;
}

pub returns : goal.returns
returns c = rw (← c.self.view_is, c.stop_life.ensures, c.end_threads.ensures, stopped-applications) refl
