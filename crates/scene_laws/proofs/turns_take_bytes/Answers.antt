use Rattle.scene_laws.proofs.Turns.{turns_few}
use Rattle.scene_laws.proofs.turns_take_bytes.Goals as goal

pub returns : goal.returns
returns c = turns_few
