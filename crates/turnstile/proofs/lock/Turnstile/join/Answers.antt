use Rattle.std.proofs.Common.{◌≡◌, ap, ◌∙◌, false, Some, arith, max}
use Rattle.turnstile.specs.Steps.{Sat}
use Rattle.turnstile.specs.Views.{both}
use Rattle.turnstile.specs.Passes.{view}
use Rattle.turnstile.proofs.Joining.{gathers}
use Rattle.turnstile.proofs.Gathering.{stands_both, stands_at}
use Rattle.turnstile.proofs.lock.Turnstile.join.Goals as goal

pub join_seat-requires : goal.join_seat-requires
join_seat-requires g c =
    let p = c.args.pass.now in let q = c.args.other in let v = c.take_seat-seat.result.me.0 in let w = c.take_seat-given.result.me.0 in
    let number : v.number ≡ Some p.number = ap (λ (m : Sat g.row.V.Denot). m.0.number) c.take_seat-seat.ensures.seat.1 ∙ c.requires.pass.2.number_is in
    let idle : w.has_turn ≡ false = ap (λ (m : Sat g.row.V.Denot). m.0.has_turn) c.take_seat-given.ensures.seat.1 ∙ c.requires.rests in (
      c.take_seat-seat.ensures.seat.0 ∙ c.requires.pass.0,
      c.take_seat-given.ensures.seat.0 ∙ c.requires.other.0,
      ap (λ (m : Sat g.row.V.Denot). m.1) c.take_seat-given.ensures.seat.1,
      omega arith,
      gathers g.V.Recorded.history g.V.Recorded.origin _ c.take_seat-seat.result.id c.take_seat-given.result.id p.number v w number idle,
    )

pub returns-clause-pass : goal.returns-clause-pass
returns-clause-pass g c =
    let p = c.args.pass.now in let other = c.args.other in let q = c.return_seat.new.self in
    let was = ap (λ (m : Sat g.row.V.Denot). m.0) c.take_seat-seat.ensures.seat.1 in let given = ap (λ (m : Sat g.row.V.Denot). m.0) c.take_seat-given.ensures.seat.1 in
    let same : view q ≡ both (view p) (view other) = c.return_seat.ensures.seat.2 ∙ (ap (λ (m : Sat g.row.V.Denot). m.0) c.join_seat.ensures.2 ∙ (λ i. both (was i) (given i))) in
    let number : q.number ≡ p.number = c.return_seat.ensures.rest.0 ∙ c.take_seat-seat.ensures.rest.0 in
    let mine : q.drawn ≡ p.drawn = c.return_seat.ensures.rest.1 ∙ c.take_seat-seat.ensures.rest.1 in let theirs : c.take_seat-given.new.self.drawn ≡ other.drawn = c.take_seat-given.ensures.rest.1 in
    let drawn : c.max-pass.result ≡ max p.drawn other.drawn = c.max-pass.ensures ∙ (λ i. max (mine i) (theirs i)) in
    let stands = stands_both _ _ p.number p.drawn other.number other.drawn (view p) (view other) c.requires.pass.2 c.requires.other.2 in (
      c.return_seat.ensures.seat.0 ∙ (c.join_seat.ensures.0 ∙ (c.take_seat-seat.ensures.seat.0 ∙ c.requires.pass.0)),
      c.return_seat.ensures.seat.1,
      stands_at _ _ _ _ _ _ _ _ same number drawn stands,
    )
