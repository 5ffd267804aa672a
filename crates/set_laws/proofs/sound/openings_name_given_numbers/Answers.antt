use Rattle.set_laws.proofs.Soundness.{openings_given}
use Rattle.set_laws.proofs.sound.openings_name_given_numbers.Goals as goal

pub returns : goal.returns
returns c = openings_given
