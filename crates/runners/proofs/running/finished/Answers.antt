use Rattle.std.proofs.Common.{◌≤◌, length, subst, sym, ◌∙◌, arith}
use Rattle.kernel_types.specs.Turns.{history_limit}
use Rattle.runners.specs.Runs.{IsRunToEnd, IsRunToLimit}
use Rattle.runners.proofs.Ending.{run_carries}
use Rattle.runners.proofs.Working.{ran_to_end, ran_to_limit}
use Rattle.runners.proofs.running.finished.Goals as goal

pub returns-then-over-clause-whole : goal.returns-then-over-clause-whole
returns-then-over-clause-whole g c =
    subst (λ origin. IsRunToEnd origin c.into_logged-logged.result) c.requires
    (ran_to_end c.args.shared c.into_logged-logged.result c.into_logged-logged.ensures.state c.into_logged-logged.ensures.entries
    (record { legal = c.legal.ensures.legal; follows = c.legal.ensures.follows; short = c.legal.ensures.short }) (sym c.is_over-over.ensures ∙ c.if-over.true))

pub returns-then-over-clause-carried : goal.returns-then-over-clause-carried
returns-then-over-clause-carried g c =
    run_carries c.frames_are_carried_in_order.ensures c.args.scene.now c.into_logged-logged.result c.is_lawful.ensures (returns-then-over-clause-whole g c).run

pub returns-then-full-clause-refused : goal.returns-then-full-clause-refused
unfolding history_limit
returns-then-full-clause-refused g c =
    let full : history_limit ≤ length c.args.shared.history = omega (arith) in
    subst (λ origin. IsRunToLimit origin c.into_logged-logged.result) c.requires
    (ran_to_limit c.args.shared c.into_logged-logged.result c.into_logged-logged.ensures.state c.into_logged-logged.ensures.entries
    (record { legal = c.legal.ensures.legal; follows = c.legal.ensures.follows; short = c.legal.ensures.short }) (sym c.is_over-over.ensures ∙ c.if-over.false) full)

pub returns-then-full-clause-cut_carried : goal.returns-then-full-clause-cut_carried
returns-then-full-clause-cut_carried g c =
    run_carries c.frames_are_carried_in_order.ensures c.args.scene.now c.into_logged-logged.result c.is_lawful.ensures (returns-then-full-clause-refused g c).run
