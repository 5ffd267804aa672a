use Rattle.scene_lines.proofs.client_lines.client_call_act.Goals as goal

pub returns-in_ok-client_repeat_line-in-ClientRepeat-clause-kept : goal.returns-in_ok-client_repeat_line-in-ClientRepeat-clause-kept
returns-in_ok-client_repeat_line-in-ClientRepeat-clause-kept c = λ before h. c.in_ok-client_repeat_line-in-ClientRepeat.ensures.kept before c.args.used (rw c.in-ClientRepeat.is at h)
