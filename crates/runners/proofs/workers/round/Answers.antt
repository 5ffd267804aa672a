use Rattle.std.proofs.Common.{◌++◌, [], ◌∷◌, List, ap, sym, ◌∙◌, arith}
use Rattle.kernel_values.specs.declared.entry.Entry.{Entry}
use Rattle.kernel_types.specs.Turns.{history_limit}
use Rattle.turnstile.specs.declared.view.View.{View}
use Rattle.turnstile.specs.Passes.{view}
use Rattle.runners.specs.Workers.{AddsOwn, WentOn}
use Rattle.runners.proofs.Working.{step_adds_own, asks_same, no_step_stays, step_asks_nothing, step_ends_nothing, went_more, went_same, ends_same}
use Rattle.runners.proofs.workers.round.Goals as goal

pub leave_with-requires-clause-history : goal.leave_with-requires-clause-history
leave_with-requires-clause-history g c =
    let adds : AddsOwn c.args.actor c.enter-shared.result.history c.serve-round.new.shared.history =
    step_adds_own c.args.actor c.serve-round.result c.enter-shared.result c.serve-round.new.shared (sym c.is_step.ensures ∙ c.if-is_step.true) c.serve-round.ensures.served in
    (adds.entry, adds.longer_is ∙ ap (λ (es : List Entry). es ++ adds.entry ∷ []) (sym (ap (λ (v : View). v.seen) c.enter-shared.ensures.view)))

pub leave_with-requires-clause-room : goal.leave_with-requires-clause-room
unfolding history_limit
leave_with-requires-clause-room g c = omega (arith, c.legal.ensures.short)

pub leave-requires-clause-history : goal.leave-requires-clause-history
leave-requires-clause-history g c =
    no_step_stays c.args.actor c.serve-round.result c.enter-shared.result c.serve-round.new.shared (sym c.is_step.ensures ∙ c.if-is_step.false) c.serve-round.ensures.served
    ∙ sym (ap (λ (v : View). v.seen) c.enter-shared.ensures.view)

pub returns-then-is_step-clause-went_on : goal.returns-then-is_step-clause-went_on
returns-then-is_step-clause-went_on g c =
    went_more c.args.actor (view c.args.pass.now) (view c.enter-shared.new.pass) (view c.leave_with.new.pass) _ _ c.enter-shared.result c.serve-round.new.shared
    c.enter-shared.ensures.view c.leave_with.ensures.view (c.requires.pass.0.2.origin_is ∙ sym c.enter-shared.ensures.origin) c.enter-shared.ensures.history.0
    (step_adds_own c.args.actor c.serve-round.result c.enter-shared.result c.serve-round.new.shared (sym c.is_step.ensures ∙ c.if-is_step.true) c.serve-round.ensures.served)
    c.serve-round.ensures.origin (record { legal = c.legal.ensures.legal; follows = c.legal.ensures.follows; short = c.legal.ensures.short })

pub returns-then-is_step-clause-ends : goal.returns-then-is_step-clause-ends
returns-then-is_step-clause-ends g c = step_ends_nothing c.serve-round.result (view c.leave_with.new.pass) (sym c.is_step.ensures ∙ c.if-is_step.true)

pub returns-else-is_step-clause-went_on : goal.returns-else-is_step-clause-went_on
returns-else-is_step-clause-went_on g c =
    went_same c.args.actor (view c.args.pass.now) (view c.enter-shared.new.pass) (view c.leave.new.pass) _ _ c.enter-shared.result c.serve-round.new.shared
    c.enter-shared.ensures.view c.leave.ensures.view (c.requires.pass.0.2.origin_is ∙ sym c.enter-shared.ensures.origin) c.enter-shared.ensures.history.0
    (no_step_stays c.args.actor c.serve-round.result c.enter-shared.result c.serve-round.new.shared (sym c.is_step.ensures ∙ c.if-is_step.false) c.serve-round.ensures.served)
    c.serve-round.ensures.origin (record { legal = c.legal.ensures.legal; follows = c.legal.ensures.follows; short = c.legal.ensures.short })

pub returns-else-is_step-clause-ends : goal.returns-else-is_step-clause-ends
returns-else-is_step-clause-ends g c =
    let went : WentOn c.args.actor (view c.args.pass.now) (view c.leave.new.pass) = returns-else-is_step-clause-went_on g c in
    ends_same c.args.actor c.serve-round.result (view c.args.pass.now) (view c.enter-shared.new.pass) (view c.leave.new.pass) _ _ c.enter-shared.result c.serve-round.new.shared
    c.enter-shared.ensures.view c.leave.ensures.view (c.requires.pass.0.2.origin_is ∙ sym c.enter-shared.ensures.origin)
    (no_step_stays c.args.actor c.serve-round.result c.enter-shared.result c.serve-round.new.shared (sym c.is_step.ensures ∙ c.if-is_step.false) c.serve-round.ensures.served)
    c.serve-round.ensures.origin went.follows c.serve-round.ensures.served

pub returns-then-is_step-clause-asks : goal.returns-then-is_step-clause-asks
returns-then-is_step-clause-asks g c = step_asks_nothing c.args.actor c.serve-round.result (view c.leave_with.new.pass) (sym c.is_step.ensures ∙ c.if-is_step.true)

pub returns-else-is_step-clause-asks : goal.returns-else-is_step-clause-asks
returns-else-is_step-clause-asks g c =
    asks_same c.args.actor c.serve-round.result (view c.args.pass.now) (view c.enter-shared.new.pass) (view c.leave.new.pass) _ _ c.enter-shared.result c.serve-round.new.shared
    c.enter-shared.ensures.view c.leave.ensures.view c.serve-round.ensures.served
