use Rattle.std.proofs.Common.{◌≡◌, ◌∙◌, List, Option, Some, slice_get, sym, ap, subst, refl}
use Rattle.wait_events.specs.declared.waits.Waiting.{Waiting}
use Rattle.wait_events.specs.Waits.{deadline_in, with_decided}
use Rattle.wait_events.proofs.Deadlines.{least_set, mapped_deadline}
use Rattle.wait_events.proofs.waits.Waits.decided.Goals as goal

pub invariant_of-self : goal.invariant_of-self
invariant_of-self c =
    let here = subst (λ (xs : List (Option Waiting)). slice_get xs c.args.actor.0 ≡ Some c.actor_at-actor.result) c.deref.ensures.value c.actor_at-actor.ensures in
    let same = ap deadline_in c.with_decided.ensures ∙ mapped_deadline (with_decided c.args.now) (λ w. refl) c.actor_at-actor.result in
    (c.self.invariant.0, c.self.invariant.1 ∙ sym (least_set c.self.inside.actors.items c.args.actor.0 c.actor_at-actor.result c.with_decided.result here same))
