use Rattle.std.proofs.Common.{arith}
use Rattle.turnstile.proofs.Turning.{draws_from}
use Rattle.turnstile.proofs.lock.Turnstile.draw_once.Goals as goal

pub compare_exchange-requires : goal.compare_exchange-requires
compare_exchange-requires g c = (
  c.requires.seat.0,
  omega arith,
  draws_from g.V.Recorded.history g.V.Recorded.origin _ _ _ c.args.drawn c.args.seat.now.me c.requires.drawn.0 c.requires.view.0 c.requires.view.1 (let seats = c.requires.view.2 in let low = c.requires.drawn.1 in omega arith),
)
