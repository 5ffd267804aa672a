use Rattle.name_laws.proofs.There.{exactly_named}
use Rattle.name_laws.proofs.names.objects_are_there_exactly_where_named.Goals as goal

pub returns : goal.returns
returns c = exactly_named
