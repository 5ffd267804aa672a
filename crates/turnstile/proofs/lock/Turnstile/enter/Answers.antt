use Rattle.std.proofs.Common.{rules, ◌≡◌, ◌∙◌}
use Rattle.turnstile.specs.Steps.{Continues}
use Rattle.turnstile.specs.Views.{entered, waited}
use Rattle.turnstile.specs.Passes.{view}
use Rattle.turnstile.proofs.Passes.{is_pass, sound_entered, sound_waited}
use Rattle.turnstile.proofs.lock.Turnstile.enter.Goals as goal

pub returns-clause-pass : goal.returns-clause-pass
returns-clause-pass g c =
    let p = c.args.pass.now in let q = c.return_seat.new.self in let v = view p in let history = g.V.Recorded.history c.take_value-value.result in
    let same : view q ≡ entered (waited v (view q).tries (view q).last) history = search rules in
    let on : Continues v history = search rules in
    is_pass _ _ _ p.number p.drawn q (entered (waited v (view q).tries (view q).last) history)
    (c.return_seat.ensures.seat.0 ∙ (c.take_value-value.ensures.seat.0 ∙ (c.wait_turn.ensures.seat.0 ∙ (c.take_seat-seat.ensures.seat.0 ∙ c.requires.pass.0))))
    c.return_seat.ensures.seat.1 same (c.return_seat.ensures.rest.0 ∙ c.take_seat-seat.ensures.rest.0) (c.return_seat.ensures.rest.1 ∙ c.take_seat-seat.ensures.rest.1)
    (sound_entered _ _ _ _ (waited v (view q).tries (view q).last) (sound_waited _ _ _ _ v c.requires.pass.2 (view q).tries (view q).last) history on)
