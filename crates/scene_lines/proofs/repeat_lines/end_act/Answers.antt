use Rattle.scene_lines.specs.Reading.{closed, client_closed}
use Rattle.scene_lines.specs.Lawful.{IsLawful}
use Rattle.scene_lines.proofs.Acts.{kept_by, closed_kept, client_closed_kept}
use Rattle.scene_lines.proofs.repeat_lines.end_act.Goals as goal

pub returns-else-not-is_empty-clause-kept : goal.returns-else-not-is_empty-clause-kept
returns-else-not-is_empty-clause-kept c = λ before h. kept_by (λ next. IsLawful before next.1 next.0) c.closed.result (closed c.args.used c.in-Repeat.app c.in-Repeat.repeat) c.closed.ensures
    (λ next e. closed_kept before c.args.used c.in-Repeat.app c.in-Repeat.repeat next (rw c.in-Repeat.is at h) e)

pub returns-else-not-is_empty-2-clause-kept : goal.returns-else-not-is_empty-2-clause-kept
returns-else-not-is_empty-2-clause-kept c = λ before h. kept_by (λ next. IsLawful before next.1 next.0) c.client_closed.result (client_closed c.args.used c.in-ClientRepeat.client c.in-ClientRepeat.repeat) c.client_closed.ensures
    (λ next e. client_closed_kept before c.args.used c.in-ClientRepeat.client c.in-ClientRepeat.repeat next (rw c.in-ClientRepeat.is at h) e)
