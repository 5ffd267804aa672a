use Rattle.std.proofs.Common.{◌+◌, ◌∙◌, sym, drop, arith}
use Rattle.std.proofs.lemmas.List.{at_drop_all}
use Rattle.report_text.specs.OwnCalls.{answer_in}
use Rattle.report_text.proofs.OwnCalls.{answer_own, answer_later}
use Rattle.report_text.proofs.Printed.{left_at}
use Rattle.report_text.proofs.actors.answer_in.Goals as goal

pub returns-then-is_of_actor : goal.returns-then-is_of_actor
returns-then-is_of_actor c =
    c.wait_answer.ensures
    ∙ sym (answer_own c.args.actor c.entry-item.result (drop (c.loop-entry.entry-index + 1) c.args.later.now) (sym c.is_of_actor.ensures ∙ c.if-is_of_actor.true))
    ∙ sym (left_at (answer_in c.args.actor) c.args.later.now c.loop-entry.entry-index c.entry-item.result (omega arith) c.entry-item.is)
    ∙ c.loop-entry.invariant

pub loop-entry-preserved : goal.loop-entry-preserved
loop-entry-preserved c =
    sym (answer_later c.args.actor c.entry-item.result (drop (c.loop-entry.entry-index + 1) c.args.later.now) (sym c.is_of_actor.ensures ∙ c.if-is_of_actor.false))
    ∙ sym (left_at (answer_in c.args.actor) c.args.later.now c.loop-entry.entry-index c.entry-item.result (omega arith) c.entry-item.is)
    ∙ c.loop-entry.invariant

pub returns : goal.returns
returns c = sym (at_drop_all (answer_in c.args.actor) c.args.later.now c.loop-entry.entry-index (omega arith)) ∙ c.loop-entry.invariant
