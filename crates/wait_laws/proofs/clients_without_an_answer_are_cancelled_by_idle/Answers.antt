use Rattle.wait_laws.proofs.Histories.{client_ends_cancelled}
use Rattle.wait_laws.proofs.clients_without_an_answer_are_cancelled_by_idle.Goals as goal

pub returns : goal.returns
returns c = client_ends_cancelled
