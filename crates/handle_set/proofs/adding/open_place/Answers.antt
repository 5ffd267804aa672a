use Rattle.std.proofs.Common.{◌<◌, length, subst, sym}
use Rattle.handle_set.proofs.Pushing.{open_within}
use Rattle.handle_set.proofs.adding.open_place.Goals as goal

pub returns-clause-within : goal.returns-clause-within
returns-clause-within c = subst (λ n. n < length c.args.sets.now) (sym c.place_of.ensures) (open_within c.args.sets.now c.args.id c.requires)
