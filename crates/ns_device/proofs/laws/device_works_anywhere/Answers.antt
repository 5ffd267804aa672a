use Rattle.ns_device.proofs.Anywhere.{works_anywhere}
use Rattle.ns_device.proofs.laws.device_works_anywhere.Goals as goal

pub returns : goal.returns
returns c = works_anywhere
