use Rattle.set_laws.proofs.Soundness.{steps_keep_given}
use Rattle.set_laws.proofs.sound.steps_keep_names_given.Goals as goal

pub returns : goal.returns
returns c = steps_keep_given
