use Rattle.ns_device.proofs.Anywhere.{device_anywhere}
use Rattle.ns_device.proofs.laws.device_steps_anywhere.Goals as goal

pub returns : goal.returns
returns c = device_anywhere
