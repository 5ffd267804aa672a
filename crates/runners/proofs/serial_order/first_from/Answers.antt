use Rattle.std.proofs.Common.{◌≡◌, true, false, ◌∙◌, sym, rules}
use Rattle.kernel_types.specs.Turns.{takes_turn}
use Rattle.runners.specs.Runs.{state_told}
use Rattle.run_laws.proofs.Numbers.{number_found, number_passed, numbers_end}
use Rattle.runners.proofs.serial_order.first_from.Goals as goal

pub returns-then-takes_turn-clause-first : goal.returns-then-takes_turn-clause-first
returns-then-takes_turn-clause-first g c =
    let t : takes_turn (state_told c.args.shared.now) c.loop-actor.actor ≡ true = search rules in
    sym (number_found (takes_turn (state_told c.args.shared.now)) _ _ c.loop-actor-test.true t) ∙ c.loop-actor.invariant

pub loop-actor-preserved : goal.loop-actor-preserved
loop-actor-preserved g c =
    let t : takes_turn (state_told c.args.shared.now) c.loop-actor.actor ≡ false = search rules in
    sym (number_passed (takes_turn (state_told c.args.shared.now)) _ _ c.loop-actor-test.true t) ∙ c.loop-actor.invariant

pub returns-clause-first : goal.returns-clause-first
returns-clause-first g c = sym (numbers_end (takes_turn (state_told c.args.shared.now)) _ _ c.loop-actor-test.false) ∙ c.loop-actor.invariant
