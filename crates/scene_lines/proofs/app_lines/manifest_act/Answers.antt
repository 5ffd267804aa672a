use Rattle.std.proofs.Common.{◌≡◌, sym, ◌∙◌}
use Rattle.scene_lines.proofs.app_lines.manifest_act.Goals as goal

pub returns-in-Some-clause-lawful : goal.returns-in-Some-clause-lawful
returns-in-Some-clause-lawful c = c.manifests_are_lawful.ensures c.args.text.now c.in-Some.manifest (sym c.in_ok-read.ensures ∙ c.in-Some.is)
