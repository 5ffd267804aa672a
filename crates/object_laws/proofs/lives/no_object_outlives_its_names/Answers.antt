use Rattle.object_laws.proofs.Living.{none_outlives}
use Rattle.object_laws.proofs.lives.no_object_outlives_its_names.Goals as goal

pub returns : goal.returns
returns c = none_outlives
