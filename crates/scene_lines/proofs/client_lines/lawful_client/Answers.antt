use Rattle.scene_lines.specs.Reading.{with_client}
use Rattle.scene_lines.specs.Lawful.{IsLawful}
use Rattle.scene_lines.proofs.Acts.{kept_by, client_kept}
use Rattle.scene_lines.proofs.client_lines.lawful_client.Goals as goal

pub returns-clause-kept : goal.returns-clause-kept
returns-clause-kept c = λ used h. kept_by (λ next. IsLawful next.0 next.1 used) c.with_client.result (with_client c.args.before c.args.last c.args.name.now) c.with_client.ensures
    (λ next e. client_kept c.args.before c.args.last used c.args.name.now next e h c.requires)
