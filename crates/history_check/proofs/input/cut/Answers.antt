-- What is cut at the first line `report`, and that a place is behind the lines in front of it.
use Rattle.std.proofs.Common.{arith, sym, ◌∙◌}
use Rattle.history_check.proofs.Cutting.{found_scene, found_report, some_bytes, none_more, all_scene, no_report}
use Rattle.history_check.proofs.input.cut.Goals as goal

pub returns-then-is_report_line-clause-scene : goal.returns-then-is_report_line-clause-scene
returns-then-is_report_line-clause-scene c =
    found_scene c.args.input.now c.loop-at.at c.loop-at.invariant _ _ c.loop-at-test.true c.first_line.ensures.parts c.first_line.ensures.behind (sym c.is_report_line.ensures ∙ c.if-is_report_line.true)

pub returns-then-is_report_line-clause-report : goal.returns-then-is_report_line-clause-report
returns-then-is_report_line-clause-report c =
    found_report c.args.input.now c.loop-at.at c.loop-at.invariant _ _ c.loop-at-test.true c.first_line.ensures.parts c.first_line.ensures.behind (sym c.is_report_line.ensures ∙ c.if-is_report_line.true)

pub loop-at-smaller : goal.loop-at-smaller
loop-at-smaller c =
    omega (arith, c.loop-at-test.true, some_bytes c.args.input.now c.loop-at.at c.loop-at.invariant c.first_line.result.0.now c.first_line.result.1.now c.loop-at-test.true c.first_line.ensures.parts c.first_line.ensures.behind)

pub loop-at-preserved : goal.loop-at-preserved
loop-at-preserved c =
    none_more c.args.input.now c.loop-at.at c.loop-at.invariant _ _ c.loop-at-test.true c.first_line.ensures.parts c.first_line.ensures.behind (sym c.is_report_line.ensures ∙ c.if-is_report_line.false)

pub returns-clause-scene : goal.returns-clause-scene
returns-clause-scene c = all_scene c.args.input.now c.loop-at.at c.loop-at.invariant (omega (arith, c.loop-at-test.false))

pub returns-clause-report : goal.returns-clause-report
returns-clause-report c = no_report c.args.input.now c.loop-at.at c.loop-at.invariant (omega (arith, c.loop-at-test.false))
