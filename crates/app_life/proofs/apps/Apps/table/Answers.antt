use Rattle.std.proofs.Common.{ap, sym, refl, arith, ◌∙◌}
use Rattle.std.specs.Prelude.{option_copied}
use Rattle.app_life.proofs.Joined.{some_life, app_table_here}
use Rattle.app_life.proofs.apps.Apps.table.Goals as goal

pub unwrap-requires : goal.unwrap-requires
unwrap-requires c =
    let less = rw (← c.self.view_is) at c.requires in
    let some = some_life _ _ _ c.self.invariant.same less in
    grind (arith, some, c.get.ensures)

pub returns : goal.returns
returns c =
    let was = sym c.get.ensures ∙ ap option_copied c.unwrap.ensures in
    rw (← c.self.view_is) (app_table_here _ _ c.args.app.0 c.self.invariant.same ∙ rw was refl)
