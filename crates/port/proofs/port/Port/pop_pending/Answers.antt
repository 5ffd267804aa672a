use Rattle.std.proofs.Common.{refl}
use Rattle.port.proofs.Keys.{first_popped, rest_serials}
use Rattle.port.proofs.port.Port.pop_pending.Goals as goal

pub returns-clause-first : goal.returns-clause-first
returns-clause-first c = rw (← c.self.view_is) (first_popped c.pop_front.result _ _ c.pop_front.ensures.items c.pop_front.ensures.rest)

pub returns-clause-rest : goal.returns-clause-rest
returns-clause-rest c = rw (← c.self.view_is, c.pop_front.ensures.rest, rest_serials c.self.inside.pending.items) refl
