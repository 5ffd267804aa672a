use Rattle.std.proofs.Common.{arith, ap, Option, List, ℕ}
use Rattle.turnstile.proofs.Holding.{leaves}
use Rattle.turnstile.proofs.lock.Turnstile.give_turn.Goals as goal

pub swap-requires : goal.swap-requires
swap-requires g c = let v = c.args.seat.now.me.0 in let value = c.requires.value in (
  c.requires.seat,
  omega arith,
  leaves g.V.Recorded.history g.V.Recorded.origin _ _ _ c.args.seat.now.me v value.0 (ap (λ (l : List (ℕ × Option g.row.V.Denot)). (v, l)) value.1) c.requires.view.0 c.requires.view.1 c.requires.view.2 c.requires.view.3 value.2 value.3,
)
