use Rattle.std.proofs.Common.{◌≡◌, ◌∙◌, List, Option, set, slice_get, Some, sym, ap, subst, refl, add-one}
use Rattle.std.specs.Option.{option_map}
use Rattle.handle_set.specs.Members.{map_at}
use Rattle.handle_set.proofs.Places.{map_at_is}
use Rattle.handle_set.proofs.Turns.{step}
use Rattle.wait_events.specs.declared.waits.Waiting.{Waiting}
use Rattle.wait_events.specs.Waits.{with_cancelled}
use Rattle.wait_events.proofs.waits.cancel_all.Goals as goal

pub loop-at-preserved : goal.loop-at-preserved
loop-at-preserved c =
    let P : List (Option Waiting) → Type 0 = λ xs. slice_get xs c.loop-at.at ≡ Some c.actor_at-actor.result in
    let in_turn = subst P c.loop-at.invariant c.actor_at-actor.ensures in
    rw (add-one c.loop-at.at)
    (ap (λ a. set c.loop-at.actors c.loop-at.at a) c.with_cancelled.ensures
    ∙ sym (map_at_is (option_map with_cancelled) c.loop-at.actors c.loop-at.at c.actor_at-actor.result c.actor_at-actor.ensures)
    ∙ ap (map_at (option_map with_cancelled) c.loop-at.at) c.loop-at.invariant
    ∙ step (option_map with_cancelled) (option_map with_cancelled) c.args.actors.now c.loop-at.at c.actor_at-actor.result in_turn refl)
