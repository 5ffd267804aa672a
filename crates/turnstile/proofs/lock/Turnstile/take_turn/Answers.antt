use Rattle.std.proofs.Common.{arith}
use Rattle.turnstile.proofs.Turning.{tries}
use Rattle.turnstile.proofs.lock.Turnstile.take_turn.Goals as goal

pub compare_exchange-found-requires : goal.compare_exchange-found-requires
compare_exchange-found-requires g c = (c.requires.seat.0, omega arith, tries g.V.Recorded.history g.V.Recorded.origin _ _ _ c.args.number c.args.seat.now.me.0 c.args.seat.now.me.1 c.requires.view.0 c.requires.view.1 c.requires.view.2)
