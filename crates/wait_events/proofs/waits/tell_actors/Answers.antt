use Rattle.std.proofs.Common.{◌≡◌, ◌∙◌, List, Option, set, slice_get, Some, sym, ap, subst, refl, add-one}
use Rattle.std.specs.Option.{option_map}
use Rattle.handle_set.specs.Members.{map_at}
use Rattle.handle_set.proofs.Places.{map_at_is}
use Rattle.handle_set.proofs.Turns.{step}
use Rattle.wait_events.specs.declared.waits.Waiting.{Waiting}
use Rattle.wait_events.specs.Waits.{retold_wait}
use Rattle.wait_events.proofs.waits.tell_actors.Goals as goal

pub loop-at-preserved : goal.loop-at-preserved
loop-at-preserved c =
    let P : List (Option Waiting) → Type 0 = λ xs. slice_get xs c.loop-at.at ≡ Some c.actor_at-actor.result in
    let in_turn = subst P c.loop-at.invariant c.actor_at-actor.ensures in
    rw (add-one c.loop-at.at)
    (ap (λ a. set c.loop-at.actors c.loop-at.at a) c.retold_actor.ensures
    ∙ sym (map_at_is (option_map (retold_wait c.args.sets.now.sets c.args.object.serial c.args.events)) c.loop-at.actors c.loop-at.at c.actor_at-actor.result c.actor_at-actor.ensures)
    ∙ ap (map_at (option_map (retold_wait c.args.sets.now.sets c.args.object.serial c.args.events)) c.loop-at.at) c.loop-at.invariant
    ∙ step (option_map (retold_wait c.args.sets.now.sets c.args.object.serial c.args.events)) (option_map (retold_wait c.args.sets.now.sets c.args.object.serial c.args.events)) c.args.actors.now c.loop-at.at c.actor_at-actor.result in_turn refl)
