-- What a step of the device comes to in any world, by what it comes to where only the core, the memory and the device are.
use Rattle.std.specs.Prelude.{◌≡◌, ℕ, ◌&&◌, List, [], ◌∷◌, Option, IsTrue}
use Rattle.std.specs.Option.{is_some, option_map}
use Rattle.kernel_values.specs.declared.entry.Event.TheVariants as event
use Rattle.kernel_values.specs.declared.entry.Seqs.{Seqs}
use Rattle.kernel_values.specs.declared.reply.Answer.TheVariants as answer
use Rattle.kernel_values.specs.declared.reply.DeviceReply.{DeviceReply}
use Rattle.kernel_values.specs.declared.state.CoreState.{CoreState}
use Rattle.kernel_values.specs.declared.state.State.{State}
use Rattle.kernel_values.specs.declared.world.ClientActivity.TheVariants as activity
use Rattle.kernel_values.specs.declared.world.Device.{Device}
use Rattle.kernel_values.specs.declared.world.World.{World}
use Rattle.kernel_types.specs.Device.{DeviceStep, device_step, has_device}
use Rattle.kernel_types.specs.Opening.{opening_driver}
use Rattle.kernel_types.specs.Step.{Stepped, device_has_work, step}
use Rattle.ns_device.specs.declared.told.DeviceOutcome.{DeviceOutcome}

-- this core, memory and device, with some driver and one client; nothing that the device does depends on these
abbrev pub bare : CoreState → List ℕ → Device → State
bare c memory d = record {
  core = c;
  world = record { memory = memory; device = d; driver = opening_driver d.to_normal.n; clients = (record { activity = activity.Ended 1 }) ∷ [] };
}

-- what a step leaves
pub record Left : Type 0 where
  pub reply : DeviceReply
  pub seqs : Seqs
  pub core : CoreState
  pub memory : List ℕ
  pub device : Device

abbrev pub left : DeviceStep → Left
left done = record { reply = done.reply; seqs = done.seqs; core = done.state.core; memory = done.state.world.memory; device = done.state.world.device }

-- the step of the device, or none
unfoldable pub device_left : CoreState → List ℕ → Device → Option Left
device_left c memory d = option_map left (device_step (bare c memory d))

-- what was told, with what is there afterwards
abbrev pub told_of : CoreState → List ℕ → Device → DeviceOutcome → Left
told_of c memory d told = record { reply = told.reply; seqs = told.seqs; core = c; memory = memory; device = d }

-- the same step in a world: its driver and its clients stay
abbrev pub left_in : World → Left → Stepped
left_in w l = record {
  answer = answer.Device l.reply;
  seqs = l.seqs;
  state = record { core = l.core; world = record w { memory = l.memory; device = l.device } };
}

abbrev pub DeviceStepsAnywhere : Type 0
DeviceStepsAnywhere = (s : State) → IsTrue (has_device s.world.clients)
    → step s event.Device ≡ option_map (left_in s.world) (device_left s.core s.world.memory s.world.device)

abbrev pub DeviceWorksAnywhere : Type 0
DeviceWorksAnywhere = (s : State) → device_has_work s ≡ (has_device s.world.clients && is_some (device_left s.core s.world.memory s.world.device))
