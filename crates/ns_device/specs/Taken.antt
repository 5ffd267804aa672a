-- What was done for a frame.
use Rattle.std.specs.Prelude.{ℕ}
use Rattle.kernel_values.specs.declared.state.CoreState.{CoreState}
use Rattle.kernel_values.specs.declared.world.BridgeEntry.{BridgeEntry}
use Rattle.kernel_values.specs.declared.world.Device.{Device}
use Rattle.kernel_types.specs.Device.{Taken}
use Rattle.ns_device.specs.declared.told.DeviceOutcome.{DeviceOutcome}

-- what was told, with the core and the device that are there afterwards
abbrev pub taken_as : CoreState → Device → DeviceOutcome → Taken
taken_as c d told = record { reply = told.reply; change = record { seqs = told.seqs; core = c }; device = d }

abbrev pub with_end : ℕ → BridgeEntry → BridgeEntry
with_end end entry = record entry { end = end }
