use Rattle.std.proofs.Common.{◌≡◌, true, false, ap, sym, ◌∙◌}
use Rattle.std.specs.Prelude.{slice_get, is_some}
use Rattle.app_life.specs.Lives.{may_start}
use Rattle.app_life.proofs.Changes.{length-changed}
use Rattle.app_life.proofs.Joined.{table_here, may_here, stands_here, not_started_lives, started_lives}
use Rattle.app_life.proofs.Within.{within-started}
use Rattle.app_life.proofs.apps.Apps.start.Goals as goal

pub returns-in_default-clause-may : goal.returns-in_default-clause-may
returns-in_default-clause-may c =
    rw (← c.self.view_is) (ap is_some (sym c.in_default.is ∙ c.next_start.ensures) ∙ sym (may_here _ _ c.args.app.0 c.self.invariant.same))

pub returns-in_default-clause-after : goal.returns-in_default-clause-after
returns-in_default-clause-after c =
    let no : false ≡ may_start (slice_get c.args.self.now.apps c.args.app.0) =
    rw (← c.self.view_is) (ap is_some (sym c.in_default.is ∙ c.next_start.ensures) ∙ sym (may_here _ _ c.args.app.0 c.self.invariant.same)) in
    not_started_lives c.args.self.now c.args.app.0 (sym no)

pub begin_life-requires-clause-empty : goal.begin_life-requires-clause-empty
begin_life-requires-clause-empty c =
    let yes : true ≡ may_start (slice_get c.args.self.now.apps c.args.app.0) =
    rw (← c.self.view_is) (ap is_some (sym c.in-Some.is ∙ c.next_start.ensures) ∙ sym (may_here _ _ c.args.app.0 c.self.invariant.same)) in
    let empty = rw (← c.self.view_is) at (c.requires (stands_here c.args.self.now.apps c.args.app.0 (sym yes))) in
    sym (table_here _ _ c.args.app.0 c.self.invariant.same) ∙ empty

pub invariant_of-self : goal.invariant_of-self
invariant_of-self c = rw (c.begin_life.ensures, c.start_threads.ensures) record {
  same = rw length-changed c.self.invariant.same;
  within = rw (length-changed, within-started) c.self.invariant.within;
}

pub returns-clause-may : goal.returns-clause-may
returns-clause-may c =
    rw (← c.self.view_is) (ap is_some (sym c.in-Some.is ∙ c.next_start.ensures) ∙ sym (may_here _ _ c.args.app.0 c.self.invariant.same))

pub returns-clause-after : goal.returns-clause-after
returns-clause-after c =
    rw (← c.self.view_is, c.begin_life.ensures, c.start_threads.ensures) (started_lives _ _ _ _ _ c.self.invariant.same (sym c.next_start.ensures ∙ c.in-Some.is))
