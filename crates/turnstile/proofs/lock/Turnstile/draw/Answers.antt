use Rattle.std.proofs.Common.{ap, refl, arith}
use Rattle.turnstile.specs.Views.{missed}
use Rattle.turnstile.proofs.lock.Turnstile.draw.Goals as goal

pub loop-drawn-init : goal.loop-drawn-init
loop-drawn-init g c = record { table = refl; slot = c.requires.seat.1; view = ap (missed c.args.seat.now.me.0) c.requires.drawn.0; more = omega arith; few = c.requires.drawn.1 }
