-- The report of a run by threads, where it was written.
use Rattle.trusty_main.proofs.Commanding.{run_reported}
use Rattle.trusty_main.proofs.trusty.run_scene.Goals as goal

pub returns-in-Ok-threads-clause-done : goal.returns-in-Ok-threads-clause-done
returns-in-Ok-threads-clause-done g c =
    run_reported _ _ _ _ _ _ _ _ c.in-Ok-threads.ensures.whole c.in-Ok-threads.ensures.carried c.tell_report-told.ensures.tells c.tell_report-told.ensures.reports
