use Rattle.scene_lines.proofs.Acts.{thread_kept}
use Rattle.scene_lines.proofs.repeat_lines.thread_act.Goals as goal

pub returns-clause-kept : goal.returns-clause-kept
returns-clause-kept c = λ before used h. thread_kept before used c.in-App.app _ (rw c.in-App.is at h) c.in_ok-next.ensures
