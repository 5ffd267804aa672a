use Rattle.std.proofs.Common.{◌≡◌, ◌∙◌, ◌<◌, List, length, map, set, slice_get, Some, sym, ap, subst, refl, arith, add-one}
use Rattle.handle_set.specs.Members.{map_at}
use Rattle.handle_set.proofs.Places.{got, map_at_is}
use Rattle.handle_set.proofs.Turns.{step}
use Rattle.wait_events.specs.declared.watch.Watch.{Watch}
use Rattle.wait_events.specs.Watches.{retold}
use Rattle.wait_events.proofs.waits.tell_tables.Goals as goal

pub loop-app-preserved : goal.loop-app-preserved
loop-app-preserved c =
    let cur = c.loop-app.tables in
    let app = c.loop-app.app in
    let t = c.index-tables-app.result in
    let f = map (retold c.args.sets.now.sets c.args.object.serial c.args.events) in
    let within : c.loop-app.app < length c.loop-app.tables = omega (arith, c.loop-app.auto.tables) in
    let here = got cur app t within c.index-tables-app.is in
    let P : List (List Watch) → Type 0 = λ xs. slice_get xs c.loop-app.app ≡ Some c.index-tables-app.result in
    let in_turn = subst P c.loop-app.invariant here in
    rw (add-one app)
    (ap (λ x. set cur app x) c.tell.ensures
    ∙ ap (λ (x : List Watch). set cur app (f x)) (sym c.index-tables-app.is)
    ∙ sym (map_at_is f cur app t here)
    ∙ ap (map_at f app) c.loop-app.invariant
    ∙ step f f c.args.tables.now app t in_turn refl)
