use Rattle.run_laws.proofs.Going.{next_takes}
use Rattle.run_laws.proofs.progress.next_turns_can_be_taken.Goals as goal

pub returns : goal.returns
returns c = next_takes
