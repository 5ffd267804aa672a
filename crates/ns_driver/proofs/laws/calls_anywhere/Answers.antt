-- proofs/laws/calls_anywhere/Answers.antt
use Rattle.ns_driver.proofs.Locality.{calls_anywhere}
use Rattle.ns_driver.proofs.laws.calls_anywhere.Goals as goal

pub returns : goal.returns
returns c = calls_anywhere
