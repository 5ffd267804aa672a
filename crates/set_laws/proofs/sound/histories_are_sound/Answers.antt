use Rattle.set_laws.proofs.Soundness.{opened_histories_sound}
use Rattle.set_laws.proofs.sound.histories_are_sound.Goals as goal

pub returns : goal.returns
returns c = opened_histories_sound
