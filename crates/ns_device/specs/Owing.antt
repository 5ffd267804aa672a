-- What is due, as the code holds it: without the bytes of the message that is to go out.
use Rattle.std.specs.Prelude.{ℕ, List, [], ◌∷◌, Option, None}
use Rattle.std.specs.Option.{option_or, unwrap_or}
use Rattle.kernel_values.specs.declared.state.CoreState.{CoreState}
use Rattle.kernel_values.specs.declared.state.State.{State}
use Rattle.kernel_values.specs.declared.world.BridgeEntry.{BridgeEntry}
use Rattle.kernel_types.specs.Bridge.{ns_peek}
use Rattle.kernel_types.specs.Bridging.{IsBridged, CanTake}
use Rattle.kernel_types.specs.Device.{Due, entry_due}
use Rattle.kernel_types.specs.Device.Due.{going_online, refusing, answering, denying, sending, leaving}
use Rattle.ns_device.specs.declared.due.Owed.{Owed}
use Rattle.ns_device.specs.declared.due.Owed.TheVariants as owed

-- the oldest message of an end, where it has one
abbrev pub oldest : CoreState → ℕ → List ℕ
oldest c end = unwrap_or (ns_peek c end) []

abbrev pub due_by : CoreState → Owed → Due
due_by c owed.GoingOnline = going_online
due_by c (owed.Refusing refusal) = refusing refusal
due_by c (owed.Answering entry view) = answering entry view
due_by c (owed.Denying entry) = denying entry
due_by c (owed.Sending entry) = sending entry (oldest c entry.end)
due_by c (owed.Leaving entry) = leaving entry

-- the first of the entries that has something due
abbrev pub first_due : CoreState → List BridgeEntry → Option Due
first_due c [] = None
first_due c (entry ∷ entries) = option_or (entry_due c entry) (first_due c entries)

-- what the calls of the core ask for: an end that is named, and a message where one is sent
abbrev pub IsReady : State → Owed → Type 0
IsReady s (owed.Denying entry) = IsBridged entry.end s
IsReady s (owed.Sending entry) = IsBridged entry.end s × CanTake entry.end s
IsReady s (owed.Leaving entry) = IsBridged entry.end s
IsReady s other = Unit {0}
