-- Whose an event is.
use Rattle.std.specs.Prelude.{◌≡◌, ℕ}
use Rattle.kernel_values.specs.declared.entry.Event.{Event}
use Rattle.kernel_values.specs.declared.entry.Event.TheVariants as event
use Rattle.ns_bridge.specs.declared.movers.Mover.{Mover}
use Rattle.ns_bridge.specs.declared.movers.Mover.TheVariants.{Thread, Client, Device, Idle}
use Rattle.ns_bridge.specs.Wholes.{IsOfClient, IsOfThread}

abbrev pub IsOf : Mover → ℕ → Event → Type 0
IsOf Thread threads e = IsOfThread threads e
IsOf (Client client) threads e = IsOfClient threads client e
IsOf Device threads e = e ≡ event.Device
IsOf Idle threads e = e ≡ event.Idle
