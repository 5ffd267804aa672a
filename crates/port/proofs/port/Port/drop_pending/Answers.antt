use Rattle.std.proofs.Common.{refl}
use Rattle.port.proofs.Keys.{kept_serials}
use Rattle.port.proofs.port.Port.drop_pending.Goals as goal

pub returns-clause-rest : goal.returns-clause-rest
returns-clause-rest c = rw (← c.self.view_is, c.unlist.ensures.keys, kept_serials c.args.end.serial c.self.inside.pending.items) refl
