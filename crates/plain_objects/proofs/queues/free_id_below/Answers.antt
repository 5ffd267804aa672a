use Rattle.std.proofs.Common.{rules, ◌≡◌, true, false, ◌∙◌, sym, ap}
use Rattle.std.specs.Option.{unwrap_or}
use Rattle.kernel_types.specs.Messages.{is_free_id}
use Rattle.plain_objects.specs.Counting.{free_id_below}
use Rattle.plain_objects.proofs.Numbers.{number_found, number_passed, numbers_end}
use Rattle.plain_objects.proofs.queues.free_id_below.Goals as goal

pub returns-then-is_free_id : goal.returns-then-is_free_id
unfolding free_id_below
returns-then-is_free_id c =
    let t : is_free_id c.args.messages.now c.loop-id.id ≡ true = search rules in
    ap (λ o. unwrap_or o 0) (sym (number_found (is_free_id c.args.messages.now) _ _ c.loop-id-test.true t) ∙ c.loop-id.invariant)

pub loop-id-preserved : goal.loop-id-preserved
loop-id-preserved c =
    let t : is_free_id c.args.messages.now c.loop-id.id ≡ false = search rules in
    sym (number_passed (is_free_id c.args.messages.now) _ _ c.loop-id-test.true t) ∙ c.loop-id.invariant

pub returns : goal.returns
unfolding free_id_below
returns c = ap (λ o. unwrap_or o 0) (sym (numbers_end (is_free_id c.args.messages.now) _ _ c.loop-id-test.false) ∙ c.loop-id.invariant)
