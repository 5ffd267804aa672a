use Rattle.std.proofs.Common.{◌≡◌, Some, sym, refl, subst, arith}
use Rattle.kernel_values.specs.declared.entry.ActorStatus.TheVariants as status
use Rattle.kernel_values.specs.declared.scene.Turn.TheVariants as turn
use Rattle.kernel_values.specs.declared.state.State.{State}
use Rattle.kernel_types.specs.Facts.{status_at}
use Rattle.runners.proofs.Turning.{nothing_turn, nobody_means, off_means, ended_means}
use Rattle.runners.proofs.shared.Shared.actor_turn.Goals as goal

pub returns-then-actor-len-clause-taken : goal.returns-then-actor-len-clause-taken
returns-then-actor-len-clause-taken g c = (
  nothing_turn (turn.Actor c.args.actor) c.args.self.now c.self.inside.scripts c.self.inside.logged (sym c.self.view_is)
      (nobody_means c.self.inside.scripts c.self.inside.places.items c.self.inside.logged c.args.actor c.self.invariant.sound (omega (arith, c.self.inside.places.ok.0))),
  refl,
)

pub returns-in-Off-clause-taken : goal.returns-in-Off-clause-taken
returns-in-Off-clause-taken g c = (
  nothing_turn (turn.Actor c.args.actor) c.args.self.now c.self.inside.scripts c.self.inside.logged (sym c.self.view_is)
      (off_means c.self.inside.scripts c.self.inside.logged c.args.actor
      (subst (λ (s : State). status_at s c.args.actor ≡ Some status.Off) c.kernel.ensures.state c.in-Off.ensures)),
  refl,
)

pub returns-in-Ended-clause-taken : goal.returns-in-Ended-clause-taken
returns-in-Ended-clause-taken g c = (
  nothing_turn (turn.Actor c.args.actor) c.args.self.now c.self.inside.scripts c.self.inside.logged (sym c.self.view_is)
      (ended_means c.self.inside.scripts c.self.inside.logged c.args.actor c.in-Ended.start
      (subst (λ (s : State). status_at s c.args.actor ≡ Some (status.Ended c.in-Ended.start)) c.kernel.ensures.state c.in-Ended.ensures)),
  refl,
)
