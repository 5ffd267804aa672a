use Rattle.run_laws.proofs.Going.{is_run, whole_or_full}
use Rattle.run_laws.proofs.progress.serial_runs_go_on.Goals as goal

pub returns : goal.returns
returns c = record { is_run = is_run; whole = whole_or_full }
