use Rattle.kernel_types.specs.Events.{events_of}
use Rattle.ready_laws.proofs.events.exact_sets_have_the_models_events.Goals as goal

pub returns : goal.returns
returns c = λ objects sets short stands exact leaves.
    c.exact_sets_follow.ensures sets (events_of objects) (c.short_chains_are_ranks.ensures objects sets short stands) exact leaves (c.model_events_are_of_sets.ensures objects sets short stands)
