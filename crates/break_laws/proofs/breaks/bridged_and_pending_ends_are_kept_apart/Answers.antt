use Rattle.break_laws.proofs.Apart.{histories_apart}
use Rattle.break_laws.proofs.breaks.bridged_and_pending_ends_are_kept_apart.Goals as goal

pub returns : goal.returns
returns c = histories_apart
