use Rattle.run_laws.proofs.Going.{turn_takes}
use Rattle.run_laws.proofs.progress.allowed_turns_can_be_taken.Goals as goal

pub returns : goal.returns
returns c = turn_takes
