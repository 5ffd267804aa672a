use Rattle.std.proofs.Common.{subst}
use Rattle.runners.specs.declared.steps.Taken.{Taken}
use Rattle.runners.specs.declared.steps.Taken.TheVariants as taken
use Rattle.runners.specs.Runs.{TookTurn}
use Rattle.runners.proofs.Serving.{never_unlawful, served_step}
use Rattle.runners.proofs.rounds.take.Goals as goal

pub returns-clause-served : goal.returns-clause-served
returns-clause-served g c =
    let took : TookTurn c.args.turn c.args.shared.now c.turn.new.self taken.Stepped =
    subst (λ (t : Taken). TookTurn c.args.turn c.args.shared.now c.turn.new.self t) c.in-Stepped.is c.in-Ok.ensures.taken in
    served_step c.args.actor c.args.turn c.args.shared.now c.turn.new.self c.requires.turn took

pub unreachable-requires : goal.unreachable-requires
unreachable-requires g c =
    let took : TookTurn c.args.turn c.args.shared.now c.turn.new.self taken.Unlawful =
    subst (λ (t : Taken). TookTurn c.args.turn c.args.shared.now c.turn.new.self t) c.in-Unlawful.is c.in-Ok.ensures.taken in
    never_unlawful c.args.turn c.args.shared.now c.turn.new.self (c.goes_on.ensures c.args.turn c.requires.lawful) took
