use Rattle.std.proofs.Common.{refl}
use Rattle.limit_laws.proofs.Lawful.{lawful_limits}
use Rattle.limit_laws.proofs.scenes_have_limits.Goals as goal

pub returns : goal.returns
returns c = record { apps = refl; threads = (refl, refl); start_ports = refl; clients = refl; commands = refl; payload = refl; lawful = lawful_limits }
