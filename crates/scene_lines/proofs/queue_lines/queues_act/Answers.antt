use Rattle.scene_lines.proofs.Acts.{sized_kept}
use Rattle.scene_lines.proofs.queue_lines.queues_act.Goals as goal

pub returns-clause-kept : goal.returns-clause-kept
returns-clause-kept c = λ used h. sized_kept c.args.before c.args.last.now used c.in_ok-size.size h c.in_ok-size.ensures.lawful
