use Rattle.ready_laws.proofs.Ofsets.{of_sets}
use Rattle.ready_laws.proofs.events.model_events_are_of_sets.Goals as goal

pub returns : goal.returns
returns c = of_sets c.looking_further_sees_no_more.ensures
