use Rattle.std.proofs.Common.{◌≡◌, sym, ap, ◌∙◌, subst}
use Rattle.turnstile.specs.Steps.{Sat}
use Rattle.turnstile.specs.Passes.{view, IsSound}
use Rattle.turnstile.proofs.Passes.{same_pass, sound_outcome, word_of_another}
use Rattle.turnstile.proofs.lock.Turnstile.try_enter.Goals as goal

pub returns-clause-pass : goal.returns-clause-pass
returns-clause-pass g c =
    let was : c.take_seat-seat.result.me.0 ≡ view c.args.pass.now = ap (λ (m : Sat g.row.V.Denot). m.0) c.take_seat-seat.ensures.seat.1 in
    let p = c.args.pass.now in
    let sound : IsSound _ _ p.number p.drawn c.take_seat-seat.result.me.0 = subst (IsSound _ _ p.number p.drawn) (sym was) c.requires.pass.2 in
    same_pass _ _ _ p c.return_seat.new.self c.try_turn-outcome.new.seat.me.0 c.requires.pass (c.return_seat.ensures.seat.0 ∙ (c.try_turn-outcome.ensures.seat.0 ∙ (c.take_seat-seat.ensures.seat.0 ∙ c.requires.pass.0)))
    c.return_seat.ensures.seat.1 c.return_seat.ensures.seat.2 (c.return_seat.ensures.rest.0 ∙ c.take_seat-seat.ensures.rest.0) (c.return_seat.ensures.rest.1 ∙ c.take_seat-seat.ensures.rest.1)
    (sound_outcome g.V.Recorded.history g.V.Recorded.origin _ _ _ _ c.take_seat-seat.result.me.0 c.try_turn-outcome.new.seat.me.0 c.try_turn-outcome.result sound c.try_turn-outcome.ensures.ok c.try_turn-outcome.ensures.busy)

pub returns-clause-word : goal.returns-clause-word
returns-clause-word g c = word_of_another _ _ _ _ c.take_seat-seat.result.me.0 (view c.args.pass.now) c.try_turn-outcome.new.seat.me.0 c.try_turn-outcome.result c.requires.pass.2 (ap (λ (m : Sat g.row.V.Denot). m.0) c.take_seat-seat.ensures.seat.1) c.try_turn-outcome.ensures.busy
