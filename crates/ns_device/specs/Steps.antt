-- What a step of the device leaves of a core, of the memory and of the device.
use Rattle.std.specs.Prelude.{◌≡◌, ℕ, List, Option, IfNone}
use Rattle.std.specs.Option.{option_map}
use Rattle.kernel_values.specs.declared.state.State.{State}
use Rattle.kernel_values.specs.declared.world.Device.{Device}
use Rattle.ns_device.specs.declared.told.DeviceOutcome.{DeviceOutcome}
use Rattle.ns_device.specs.Worlds.{Left, device_left, told_of}

-- what was told is this, with what is there afterwards; the world beside the core stays, and where nothing was told all does
pub record Done (o : Option Left) (told : Option DeviceOutcome) (s t : State) (memory after : List ℕ) (d e : Device) : Type 0 where
  pub left_is : option_map (told_of t.core after e) told ≡ o
  pub world_is : t.world ≡ s.world
  pub stays : IfNone told ((t ≡ s) × (after ≡ memory) × (e ≡ d))

-- the step of the device, or none
abbrev pub Stepped : Option DeviceOutcome → State → State → List ℕ → List ℕ → Device → Device → Type 0
Stepped told s t memory after d e = Done (device_left s.core memory d) told s t memory after d e
