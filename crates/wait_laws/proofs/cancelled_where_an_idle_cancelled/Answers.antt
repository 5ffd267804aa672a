use Rattle.wait_laws.proofs.Histories.{ends_cancelled}
use Rattle.wait_laws.proofs.cancelled_where_an_idle_cancelled.Goals as goal

pub returns : goal.returns
returns c = ends_cancelled
