use Rattle.std.proofs.Common.{◌≡◌, ap, ◌∙◌, false, Some, arith}
use Rattle.turnstile.specs.declared.view.View.{View}
use Rattle.turnstile.specs.Steps.{Sat}
use Rattle.turnstile.specs.Views.{found_none, both, missed, child}
use Rattle.turnstile.specs.Passes.{view}
use Rattle.turnstile.proofs.Joining.{parts, gathers}
use Rattle.turnstile.proofs.Passes.{is_pass, sound_found_none, nothing_new}
use Rattle.turnstile.proofs.lock.Turnstile.split.Goals as goal

pub split_seat-other-requires : goal.split_seat-other-requires
split_seat-other-requires g c = let v = c.take_seat-seat.result.me.0 in let live : v.spent ≡ false = ap (λ (m : Sat g.row.V.Denot). m.0.spent) c.take_seat-seat.ensures.seat.1 ∙ c.requires.2.spent in (
  c.take_seat-seat.ensures.seat.0 ∙ c.requires.0,
  omega arith,
  parts g.V.Recorded.history g.V.Recorded.origin _ _ v live,
)

pub overflow_add-result : goal.overflow_add-result
overflow_add-result g c = let low = c.in-Some.ensures.fits in omega arith

pub join_seat-requires : goal.join_seat-requires
join_seat-requires g c =
    let p = c.args.pass.now in let v = c.split_seat-other.new.seat.me.0 in let w = c.draw.new.seat.me.0 in
    let was : v ≡ view p = ap (λ (m : Sat g.row.V.Denot). m.0) c.split_seat-other.ensures.2 ∙ ap (λ (m : Sat g.row.V.Denot). m.0) c.take_seat-seat.ensures.seat.1 in
    let number : v.number ≡ Some p.number = ap (λ (u : View). u.number) was ∙ c.requires.2.number_is in
    let idle : w.has_turn ≡ false = ap (λ (u : View). u.has_turn) c.in-None.ensures.none ∙ ap (λ (m : Sat g.row.V.Denot). m.0.has_turn) c.split_seat-other.ensures.4 in
    let table = c.take_seat-seat.ensures.seat.0 ∙ c.requires.0 in (
      c.split_seat-other.ensures.0 ∙ table,
      c.draw.ensures.seat.0 ∙ (c.split_seat-other.ensures.3 ∙ table),
      c.draw.ensures.seat.1,
      omega arith,
      gathers g.V.Recorded.history g.V.Recorded.origin _ c.split_seat-other.new.seat.id c.draw.new.seat.id p.number v w number idle,
    )

pub returns-in-None-clause-pass : goal.returns-in-None-clause-pass
returns-in-None-clause-pass g c =
    let p = c.args.pass.now in let q = c.return_seat-in-None.new.self in let v = c.split_seat-other.new.seat.me.0 in let w = c.draw.new.seat.me.0 in
    let was : v ≡ view p = ap (λ (m : Sat g.row.V.Denot). m.0) c.split_seat-other.ensures.2 ∙ ap (λ (m : Sat g.row.V.Denot). m.0) c.take_seat-seat.ensures.seat.1 in
    let new : w ≡ missed (child (view p)) c.args.self.now.seats = c.in-None.ensures.none ∙ (ap (λ (m : Sat g.row.V.Denot). missed m.0 c.args.self.now.seats) c.split_seat-other.ensures.4 ∙ ap (λ (m : Sat g.row.V.Denot). missed (child m.0) c.args.self.now.seats) c.take_seat-seat.ensures.seat.1) in
    let same : view q ≡ found_none (view p) = c.return_seat-in-None.ensures.seat.2 ∙ (ap (λ (m : Sat g.row.V.Denot). m.0) c.join_seat.ensures.2 ∙ ((λ i. both (was i) (new i)) ∙ nothing_new _ _ _ _ (view p) c.requires.2)) in
    is_pass _ _ _ p.number c.args.self.now.seats q (found_none (view p)) (c.return_seat-in-None.ensures.seat.0 ∙ (c.join_seat.ensures.0 ∙ (c.split_seat-other.ensures.0 ∙ (c.take_seat-seat.ensures.seat.0 ∙ c.requires.0))))
    c.return_seat-in-None.ensures.seat.1 same (c.return_seat-in-None.ensures.rest.0 ∙ c.take_seat-seat.ensures.rest.0) c.return_seat-in-None.ensures.rest.1 (sound_found_none _ _ _ _ (view p) c.requires.2)

pub returns-in-None-clause-refused : goal.returns-in-None-clause-refused
returns-in-None-clause-refused g c =
    let p = c.args.pass.now in let q = c.return_seat-in-None.new.self in let v = c.split_seat-other.new.seat.me.0 in let w = c.draw.new.seat.me.0 in
    let was : v ≡ view p = ap (λ (m : Sat g.row.V.Denot). m.0) c.split_seat-other.ensures.2 ∙ ap (λ (m : Sat g.row.V.Denot). m.0) c.take_seat-seat.ensures.seat.1 in
    let new : w ≡ missed (child (view p)) c.args.self.now.seats = c.in-None.ensures.none ∙ (ap (λ (m : Sat g.row.V.Denot). missed m.0 c.args.self.now.seats) c.split_seat-other.ensures.4 ∙ ap (λ (m : Sat g.row.V.Denot). missed (child m.0) c.args.self.now.seats) c.take_seat-seat.ensures.seat.1) in
    c.return_seat-in-None.ensures.seat.2 ∙ (ap (λ (m : Sat g.row.V.Denot). m.0) c.join_seat.ensures.2 ∙ ((λ i. both (was i) (new i)) ∙ nothing_new _ _ _ _ (view p) c.requires.2))
