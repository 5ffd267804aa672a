use Rattle.scene_lines.proofs.Acts.{command_kept}
use Rattle.scene_lines.proofs.repeat_lines.app_line.Goals as goal

pub returns-clause-kept : goal.returns-clause-kept
returns-clause-kept c = λ before h. command_kept before c.args.used (record c.args.app { names = c.in_ok-names.names }) c.in_ok-names.command _ c.in_ok-next.ensures h.keeps c.in_ok-names.ensures.lawful
