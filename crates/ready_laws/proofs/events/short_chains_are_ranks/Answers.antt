use Rattle.handle_set.proofs.Depths.{short_ranked}
use Rattle.ready_laws.proofs.events.short_chains_are_ranks.Goals as goal

pub returns : goal.returns
returns c = λ objects sets short stands. short_ranked objects sets short stands.members
