use Rattle.wait_laws.proofs.Others.{step_other}
use Rattle.wait_laws.proofs.only_ends_of_waits_answer_cancelled.Goals as goal

pub returns : goal.returns
returns c = step_other
