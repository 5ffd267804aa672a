use Rattle.std.proofs.Common.{sym, ◌∙◌, arith}
use Rattle.history_check.proofs.Lined.{all_line, found_end, no_end}
use Rattle.history_check.proofs.lines.first_line.Goals as goal

pub loop-at-preserved : goal.loop-at-preserved
loop-at-preserved c = no_end c.args.text.now c.loop-at.at (omega arith) c.if-text-at-eq10.false c.loop-at.invariant

pub returns-then-text-at-eq10-clause-behind : goal.returns-then-text-at-eq10-clause-behind
returns-then-text-at-eq10-clause-behind c = c.split_at.ensures.back ∙ sym (found_end c.args.text.now c.loop-at.at (omega arith) c.if-text-at-eq10.true c.loop-at.invariant)

pub returns-clause-behind : goal.returns-clause-behind
returns-clause-behind c = c.split_at-2.ensures.back ∙ all_line c.args.text.now c.loop-at.at (omega arith) c.loop-at.invariant
