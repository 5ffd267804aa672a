use Rattle.set_laws.proofs.Soundness.{openings_sound}
use Rattle.set_laws.proofs.sound.openings_are_sound.Goals as goal

pub returns : goal.returns
returns c = openings_sound
