use Rattle.ready_laws.proofs.Moving.{all_move}
use Rattle.ready_laws.proofs.waits.told_waits_move_as_threads_do.Goals as goal

pub returns : goal.returns
returns c = λ core waits thread short tells. all_move c.object_waits_report_events.ensures c.table_waits_report_events.ensures core short waits tells thread
