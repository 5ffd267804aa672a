use Rattle.std.proofs.Common.{rules, ◌≡◌, sym, ap, ◌∙◌, subst, List}
use Rattle.kernel_values.specs.declared.entry.Entry.{Entry}
use Rattle.turnstile.specs.Steps.{Sat, AddsOne}
use Rattle.turnstile.specs.Views.{left, added}
use Rattle.turnstile.specs.Passes.{view}
use Rattle.turnstile.proofs.Passes.{same_pass, sound_left, sound_added}
use Rattle.turnstile.proofs.lock.Turnstile.leave_with.Goals as goal

pub add_entry-requires-clause-value : goal.add_entry-requires-clause-value
add_entry-requires-clause-value g c =
    let seen : c.lay_value.new.seat.me.0.seen ≡ (view c.args.pass.now).seen = ap (λ (m : Sat g.row.V.Denot). m.0.seen) c.lay_value.ensures.view ∙ ap (λ (m : Sat g.row.V.Denot). m.0.seen) c.take_seat-seat.ensures.seat.1 in (
      c.args.value,
      ap (λ (m : Sat g.row.V.Denot). m.1) c.lay_value.ensures.view,
      subst (λ (s : List Entry). AddsOne s (g.V.Recorded.history c.args.value)) (sym seen) c.requires.history,
      c.requires.room,
    )

pub returns-clause-pass : goal.returns-clause-pass
returns-clause-pass g c =
    let v = view c.args.pass.now in let history = g.V.Recorded.history c.args.value in
    let same : view c.return_seat.new.self ≡ left (added v history) = search rules in
    same_pass _ _ _ c.args.pass.now c.return_seat.new.self (left (added v history)) c.requires.pass
    (c.return_seat.ensures.seat.0 ∙ (c.give_turn.ensures.seat.0 ∙ (c.add_entry.ensures.seat.0 ∙ (c.lay_value.ensures.seat ∙ (c.take_seat-seat.ensures.seat.0 ∙ c.requires.pass.0)))))
    c.return_seat.ensures.seat.1 same (c.return_seat.ensures.rest.0 ∙ c.take_seat-seat.ensures.rest.0) (c.return_seat.ensures.rest.1 ∙ c.take_seat-seat.ensures.rest.1)
    (sound_left _ _ _ _ (added v history) (sound_added _ _ _ _ v c.requires.pass.2 history c.requires.history))
