use Rattle.set_laws.proofs.Soundness.{never_in_itself}
use Rattle.set_laws.proofs.sound.no_set_is_ever_in_itself.Goals as goal

pub returns : goal.returns
returns c = never_in_itself
