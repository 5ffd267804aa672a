use Rattle.wait_laws.proofs.Told.{honest_ends}
use Rattle.wait_laws.proofs.honest_clients_are_cancelled_by_idle_alone.Goals as goal

pub returns : goal.returns
returns c = honest_ends
