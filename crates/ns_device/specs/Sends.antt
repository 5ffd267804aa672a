-- What the sending of a due frame leaves of the device, by what is due as the code holds it.
use Rattle.std.specs.Prelude.{Bool, true, List, map, drop}
use Rattle.kernel_values.specs.declared.world.BridgeEntry.{BridgeEntry}
use Rattle.kernel_values.specs.declared.world.Device.{Device}
use Rattle.kernel_values.specs.declared.world.Refusal.{Refusal}
use Rattle.kernel_types.specs.Device.{answered_entry, without_entry}
use Rattle.ns_device.specs.declared.due.Owed.{Owed}
use Rattle.ns_device.specs.declared.due.Owed.TheVariants as owed

abbrev pub entries_after : Owed → List BridgeEntry → List BridgeEntry
entries_after (owed.Answering entry view) entries = map (answered_entry entry.secure) entries
entries_after (owed.Denying entry) entries = without_entry entry entries
entries_after (owed.Leaving entry) entries = without_entry entry entries
entries_after other entries = entries

abbrev pub refusals_after : Owed → List Refusal → List Refusal
refusals_after (owed.Refusing refusal) refusals = drop 1 refusals
refusals_after other refusals = refusals

abbrev pub online_after : Owed → Bool → Bool
online_after owed.GoingOnline online = true
online_after other online = online

-- the device afterwards, but for its queue
abbrev pub device_after : Owed → Device → Device
device_after o d = record d { entries = entries_after o d.entries; refusals = refusals_after o d.refusals; online = online_after o d.online }
