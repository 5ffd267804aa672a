use Rattle.std.proofs.Common.{◌∙◌, arith}
use Rattle.turnstile.proofs.Turning.{counts}
use Rattle.turnstile.proofs.lock.Turnstile.count.Goals as goal

pub load-known-requires : goal.load-known-requires
load-known-requires g c = (c.take_seat-seat.ensures.seat.0 ∙ c.requires.0, omega arith, counts g.V.Recorded.history g.V.Recorded.origin _ _ _ _ _)
