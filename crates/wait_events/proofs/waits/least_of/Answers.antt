use Rattle.std.proofs.Common.{◌≡◌, ◌∙◌, ◌<◌, ◌+◌, ◌-◌, suc, Some, length, drop, slice_get, sym, ap, arith}
use Rattle.kernel_types.specs.CoreStep.{sooner}
use Rattle.wait_events.specs.Waits.{deadline_in, least_deadline}
use Rattle.wait_events.proofs.Deadlines.{one_more, past_all}
use Rattle.wait_events.proofs.waits.least_of.Goals as goal

pub loop-done-init : goal.loop-done-init
loop-done-init c = sym (past_all c.args.actors.now (length c.args.actors.now - 0) (omega arith))

pub loop-done-preserved : goal.loop-done-preserved
loop-done-preserved c =
    let k = length c.args.actors.now - 1 - c.loop-done.done in
    let within : c.loop-done.done < length c.args.actors.now = omega arith in
    let here : slice_get c.args.actors.now (length c.args.actors.now - 1 - c.loop-done.done) ≡ Some c.actor_at-actor.result = c.actor_at-actor.ensures in
    let next : length c.args.actors.now - c.loop-done.done ≡ suc (length c.args.actors.now - 1 - c.loop-done.done) = omega arith in
    let last : length c.args.actors.now - 1 - c.loop-done.done ≡ length c.args.actors.now - (c.loop-done.done + 1) = omega arith in
    c.sooner-least.ensures
    ∙ ap (λ d. sooner d c.loop-done.least) c.deadline_in.ensures
    ∙ ap (λ l. sooner (deadline_in c.actor_at-actor.result) l) c.loop-done.invariant
    ∙ one_more c.args.actors.now (length c.args.actors.now - 1 - c.loop-done.done) (length c.args.actors.now - c.loop-done.done) c.actor_at-actor.result here next
    ∙ ap (λ n. least_deadline (drop n c.args.actors.now)) last

pub returns : goal.returns
returns c =
    let none : length c.args.actors.now - c.loop-done.done ≡ 0 = omega arith in
    c.loop-done.invariant ∙ ap (λ n. least_deadline (drop n c.args.actors.now)) none
