use Rattle.scene_reader.proofs.scene.script_act.Goals as goal

pub returns-in_ok-thread_act-in-Thread-clause-kept : goal.returns-in_ok-thread_act-in-Thread-clause-kept
returns-in_ok-thread_act-in-Thread-clause-kept c = λ before h. c.in_ok-thread_act-in-Thread.ensures.kept before c.args.used h

pub returns-in_ok-repeat_act-in-Repeat-clause-kept : goal.returns-in_ok-repeat_act-in-Repeat-clause-kept
returns-in_ok-repeat_act-in-Repeat-clause-kept c = λ before h. c.in_ok-repeat_act-in-Repeat.ensures.kept before c.args.used h
