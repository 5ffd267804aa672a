use Rattle.std.proofs.Common.{◌++◌, ap, ◌∙◌}
use Rattle.scene_lines.proofs.Repeating.{one_more, none_left}
use Rattle.scene_lines.proofs.repeats.push_repeated.Goals as goal

pub loop-preserved : goal.loop-preserved
loop-preserved c = one_more c.loop.script c.push_all.new.script c.args.body.now _ c.args.times c.loop.counter c.loop-test.true (c.in_ok-push_all.ensures ∙ ap (λ more. c.loop.script ++ more) c.as_slice.ensures.commands) c.loop.invariant

pub returns : goal.returns
returns c = none_left c.loop.script c.args.body.now _ c.args.times c.loop.counter c.loop-test.false c.loop.invariant
