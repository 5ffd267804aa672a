use Rattle.scene_laws.proofs.Tally.{honest_by_lines}
use Rattle.scene_laws.proofs.scenes_are_honest_by_their_lines.Goals as goal

pub returns : goal.returns
returns c = honest_by_lines
