use Rattle.set_laws.proofs.Soundness.{steps_keep_sound}
use Rattle.set_laws.proofs.sound.steps_keep_soundness.Goals as goal

pub returns : goal.returns
returns c = steps_keep_sound
