use Rattle.std.proofs.Common.{arith, ap, List, ℕ, Option}
use Rattle.turnstile.proofs.Holding.{opens}
use Rattle.turnstile.proofs.lock.Turnstile.lay_value.Goals as goal

pub load-requires : goal.load-requires
load-requires g c = let v = c.args.seat.now.me.0 in (
  c.requires.seat.0,
  omega arith,
  opens g.V.Recorded.history g.V.Recorded.origin _ _ _ c.args.seat.now.me v (ap (λ (l : List (ℕ × Option g.row.V.Denot)). (v, l)) c.requires.seat.1) c.requires.view.0 c.requires.view.1 c.requires.view.2,
)
