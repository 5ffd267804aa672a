use Rattle.std.proofs.Common.{arith, ◌∙◌, ap, Some, None}
use Rattle.turnstile.specs.declared.view.View.{View}
use Rattle.turnstile.proofs.Turning.{fetches}
use Rattle.turnstile.proofs.Holding.{shuts}
use Rattle.turnstile.proofs.Slots.{one_held, now_held}
use Rattle.turnstile.proofs.lock.Turnstile.take_value.Goals as goal

pub load-requires : goal.load-requires
load-requires g c = (c.requires.seat.0, omega arith, fetches g.V.Recorded.history g.V.Recorded.origin _ _ _ c.args.seat.now.me c.requires.seat.1 c.requires.view.0 c.requires.view.1 c.requires.view.2)

pub exchange-found-requires : goal.exchange-found-requires
exchange-found-requires g c = let told = c.load.ensures.2 in (c.load.ensures.0 ∙ c.requires.seat.0, (Some told.0, one_held c.load.new.seat.me.1 0 (Some told.0) told.1))

pub load-requires-2 : goal.load-requires-2
load-requires-2 g c = let told = c.load.ensures.2 in let v = c.load.new.seat.me.0 in (
  c.exchange-found.ensures.0 ∙ (c.load.ensures.0 ∙ c.requires.seat.0),
  omega arith,
  shuts g.V.Recorded.history g.V.Recorded.origin _ _ _ c.exchange-found.new.seat.me v (now_held c.exchange-found.new.seat.me v c.load.new.seat.me.1 0 (Some told.0) None told.1 c.exchange-found.ensures.3)
      (ap (λ (w : View). w.has_turn) told.2 ∙ c.requires.view.0) (ap (λ (w : View). w.loaded) told.2) (ap (λ (w : View). w.opens) told.2),
)
