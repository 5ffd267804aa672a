use Rattle.scene_lines.proofs.repeat_lines.call_act.Goals as goal

pub returns-in_ok-repeat_line-in-Repeat-clause-kept : goal.returns-in_ok-repeat_line-in-Repeat-clause-kept
returns-in_ok-repeat_line-in-Repeat-clause-kept c = λ before h. c.in_ok-repeat_line-in-Repeat.ensures.kept before c.args.used (rw c.in-Repeat.is at h)
