-- proofs/laws/waits_end_anywhere/Answers.antt
use Rattle.ns_driver.proofs.Locality.{waits_end_anywhere}
use Rattle.ns_driver.proofs.laws.waits_end_anywhere.Goals as goal

pub returns : goal.returns
returns c = waits_end_anywhere
