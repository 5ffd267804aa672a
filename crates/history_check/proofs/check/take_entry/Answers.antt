use Rattle.std.proofs.Common.{◌++◌, Bor, List, ℕ, ap, inl, refl, subst, sym, ◌∙◌}
use mathlib.Core.List.{IsPrefix}
use Rattle.history_check.proofs.Taken.{came_none, came_some, no_front, no_turn, within_of}
use Rattle.history_check.proofs.check.take_entry.Goals as goal

pub returns-in_default : goal.returns-in_default
returns-in_default g c = (
  no_front c.args.k c.args.text.now c.args.actors.now (g.K.IpcKernel.state c.args.kernel.now) c.requires.fit
      (λ p. c.in_default.ensures.none (subst (λ f. IsPrefix f c.args.text.now) (sym (c.text.ensures ∙ c.in_ok-entry_front.ensures)) p)),
  inl refl,
)

pub returns-in_default-turn_of : goal.returns-in_default-turn_of
returns-in_default-turn_of g c = (
  no_turn c.args.k c.args.text.now c.args.actors.now (g.K.IpcKernel.state c.args.kernel.now) c.requires.fit c.in-Some.said.now
      (c.in-Some.ensures.some ∙ ap (λ f. f ++ c.in-Some.said.now) (c.text.ensures ∙ c.in_ok-entry_front.ensures)) c.in_default-turn_of.ensures.none,
  inl refl,
)

pub take-requires-clause-within : goal.take-requires-clause-within
take-requires-clause-within g c = within_of c.args.actors.now c.in-Some.said.now c.in-Some-turn_of.turn c.in-Some-turn_of.ensures.some

pub returns-in_default-2 : goal.returns-in_default-2
returns-in_default-2 g c = came_none c.args.k c.args.text.now c.args.actors.now (g.K.IpcKernel.state c.args.kernel.now) c.requires.fit c.in-Some.said.now
    (c.in-Some.ensures.some ∙ ap (λ f. f ++ c.in-Some.said.now) (c.text.ensures ∙ c.in_ok-entry_front.ensures)) c.in-Some-turn_of.turn c.in-Some-turn_of.ensures.some c.take.new.self _ _ _ c.in_ok-entry.field-0 c.in_default-2.is c.in_ok-entry.ensures

pub returns : goal.returns
returns g c = came_some c.args.k c.args.text.now c.args.actors.now (g.K.IpcKernel.state c.args.kernel.now) c.requires.fit c.in-Some.said.now
    (c.in-Some.ensures.some ∙ ap (λ f. f ++ c.in-Some.said.now) (c.text.ensures ∙ c.in_ok-entry_front.ensures)) c.in-Some-turn_of.turn c.in-Some-turn_of.ensures.some {X = Bor (List ℕ)} (λ x. x.now) c.take.new.self _ _ _ c.in_ok-entry.field-0 c.in-Some-2.entry
    c.text-2.result.now c.behind-2.result c.in-Some-2.is c.in_ok-entry.ensures (c.text-2.ensures ∙ c.in_ok-written.ensures) c.behind-2.ensures.some c.behind-2.ensures.none
