use Rattle.std.proofs.Common.{◌≡◌, ap, ◌∙◌, subst, length}
use Rattle.turnstile.specs.declared.view.View.{View}
use Rattle.turnstile.specs.Numbers.{Rises}
use Rattle.turnstile.specs.Steps.{Sat, Continues}
use Rattle.turnstile.specs.Views.{entered, won, fetched, shut}
use Rattle.turnstile.specs.Passes.{view}
use Rattle.turnstile.proofs.Passes.{is_pass}
use Rattle.turnstile.proofs.Gathering.{sound_whole}
use Rattle.turnstile.proofs.lock.Turnstile.take_last.Goals as goal

pub returns-clause-pass : goal.returns-clause-pass
returns-clause-pass g c =
    let p = c.args.pass.now in let q = c.return_seat.new.self in let v = view p in let history = g.V.Recorded.history c.take_value-value.result in
    let won_it : c.take_turn.new.seat.me.0 ≡ won v = c.in-Ok.ensures.ok ∙ ap (λ (m : Sat g.row.V.Denot). won m.0) c.take_seat-seat.ensures.seat.1 in
    let same : view q ≡ entered v history = c.return_seat.ensures.seat.2 ∙ (c.take_value-value.ensures.view ∙ ap (λ (u : View). shut (fetched u history)) won_it) in
    let on : Continues v history = subst (λ (u : View). Continues u history) won_it c.take_value-value.ensures.history in
    let rises : Rises 0 (length v.seen) v.mine = subst (λ (u : View). Rises 0 (length u.seen) u.mine) won_it c.take_value-value.ensures.rises in
    is_pass _ _ _ p.number p.drawn q (entered v history) (c.return_seat.ensures.seat.0 ∙ (c.take_value-value.ensures.seat.0 ∙ (c.take_turn.ensures.seat.0 ∙ (c.take_seat-seat.ensures.seat.0 ∙ c.requires.pass.0))))
    c.return_seat.ensures.seat.1 same (c.return_seat.ensures.rest.0 ∙ c.take_seat-seat.ensures.rest.0) (c.return_seat.ensures.rest.1 ∙ c.take_seat-seat.ensures.rest.1)
    (sound_whole _ _ _ _ v history c.requires.pass.2 on rises)
