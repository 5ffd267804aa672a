-- proofs/laws/waits_move_anywhere/Answers.antt
use Rattle.ns_driver.proofs.Locality.{waits_move_anywhere}
use Rattle.ns_driver.proofs.laws.waits_move_anywhere.Goals as goal

pub returns : goal.returns
returns c = waits_move_anywhere
