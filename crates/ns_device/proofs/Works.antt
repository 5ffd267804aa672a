-- Where there is a step there is work.
use Rattle.std.proofs.Common.{◌≡◌, Option, Some, None, refl}
use Rattle.std.specs.Option.{is_some, option_map}
use Rattle.kernel_types.specs.Device.{DeviceStep}
use Rattle.ns_device.specs.Worlds.{left}

pub left_is_some : (o : Option DeviceStep) → is_some (option_map left o) ≡ is_some o
left_is_some None = refl
left_is_some (Some done) = refl
