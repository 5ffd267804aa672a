use Rattle.std.proofs.Common.{◌≡◌, ◌∙◌, List, set, slice_get, Some, sym, ap, subst, refl, arith, add-one}
use Rattle.handle_set.specs.Members.{map_at}
use Rattle.handle_set.proofs.Places.{map_at_is}
use Rattle.handle_set.proofs.Turns.{so_far_all, step}
use Rattle.wait_events.specs.declared.watch.Watch.{Watch}
use Rattle.wait_events.specs.Watches.{retold}
use Rattle.wait_events.proofs.table.TableWatch.tell.Goals as goal

pub loop-at-init : goal.loop-at-init
loop-at-init c = (refl, c.sound.ensures)

pub loop-at-preserved : goal.loop-at-preserved
loop-at-preserved c =
    let f = retold c.args.sets.now.sets c.args.object.serial c.args.events in
    let P : List Watch → Type 0 = λ xs. slice_get xs c.loop-at.at ≡ Some c.place.result in
    let in_turn = subst P c.loop-at.invariant.0 c.place.ensures in
    rw (add-one c.loop-at.at) (
      c.set.ensures
          ∙ ap (λ w. set c.loop-at.self c.loop-at.at w) c.retold.ensures
          ∙ sym (map_at_is f c.loop-at.self c.loop-at.at c.place.result c.place.ensures)
          ∙ ap (map_at f c.loop-at.at) c.loop-at.invariant.0
          ∙ step f f c.args.self.now c.loop-at.at c.place.result in_turn refl,
      c.loop-at.invariant.1,
    )

pub returns : goal.returns
returns c = c.loop-at.invariant.0 ∙ so_far_all (retold c.args.sets.now.sets c.args.object.serial c.args.events) c.loop-at.at c.args.self.now (omega (arith, c.loop-at.invariant.1))
