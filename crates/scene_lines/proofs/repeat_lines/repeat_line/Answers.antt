use Rattle.kernel_values.specs.SceneLaw.{is_lawful_thread_command}
use Rattle.scene_lines.proofs.Acts.{extended_counted}
use Rattle.scene_lines.proofs.repeat_lines.repeat_line.Goals as goal

pub returns-in-Ok-extended-clause-kept : goal.returns-in-Ok-extended-clause-kept
returns-in-Ok-extended-clause-kept c = λ before used h. record {
  keeps = h.keeps;
  body = rw c.in-Ok-extended.ensures (extended_counted is_lawful_thread_command c.args.repeat c.in-Ok-command_line.command h.body c.in-Ok-command_line.ensures.lawful);
}
