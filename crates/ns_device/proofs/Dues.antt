-- The device after a frame went out, by what is due as the code holds it and as the model does.
use Rattle.std.proofs.Common.{◌≡◌, refl}
use Rattle.kernel_values.specs.declared.state.CoreState.{CoreState}
use Rattle.kernel_values.specs.declared.world.Device.{Device}
use Rattle.kernel_types.specs.Device.{due_device}
use Rattle.ns_device.specs.declared.due.Owed.{Owed}
use Rattle.ns_device.specs.declared.due.Owed.TheVariants as owed
use Rattle.ns_device.specs.Owing.{due_by}
use Rattle.ns_device.specs.Sends.{device_after}

pub device_after_is : (c : CoreState) (o : Owed) (d : Device) → device_after o d ≡ due_device (due_by c o) d
device_after_is c owed.GoingOnline d = refl
device_after_is c (owed.Refusing refusal) d = refl
device_after_is c (owed.Answering entry view) d = refl
device_after_is c (owed.Denying entry) d = refl
device_after_is c (owed.Sending entry) d = refl
device_after_is c (owed.Leaving entry) d = refl
