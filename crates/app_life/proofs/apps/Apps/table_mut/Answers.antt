use Rattle.std.proofs.Common.{ap, refl, arith, ◌∙◌, sym}
use Rattle.std.specs.Option.{option_copied_mut}
use Rattle.app_life.proofs.Joined.{some_life, app_table_here, tabled_lives}
use Rattle.app_life.proofs.apps.Apps.table_mut.Goals as goal

pub unwrap-life-requires : goal.unwrap-life-requires
unwrap-life-requires c =
    let less = rw (← c.self.view_is) at c.requires in
    let some = some_life _ _ _ c.self.invariant.same less in
    grind (arith, some, c.get_mut.ensures.value)

pub returns : goal.returns
returns c =
    let was = sym c.get_mut.ensures.value ∙ ap option_copied_mut c.unwrap-life.ensures in (
      (refl, λ w. rw (← c.self.view_is) (tabled_lives w _ _ _ _ _ was)),
      record { writes_back = tt; value = rw (← c.self.view_is) (app_table_here _ _ c.args.app.0 c.self.invariant.same ∙ rw was refl) },
    )
