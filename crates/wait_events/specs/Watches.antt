-- What is told of watched objects.
use Rattle.std.specs.Prelude.{ℕ, Bool, not, ◌==◌, List, Option, Some, None, if◌then◌else◌}
use Rattle.kernel_values.specs.declared.flags.Events.{Events}
use Rattle.object_store.specs.declared.key.ObjKey.{ObjKey}
use Rattle.handle_set.specs.declared.settle.OpenSet.{OpenSet}
use Rattle.handle_set.specs.Sets.{ready_in, ready_events}
use Rattle.wait_events.specs.declared.watch.Watch.{Watch}

abbrev pub has_told : Events → Bool
has_told events = not (events.0 == 0)

abbrev pub is_told : Watch → Bool
is_told watch = has_told watch.events

-- an open set's readiness; else the new events, where the watched object is the one whose events changed
abbrev pub retold_by : Option Bool → ℕ → Events → ℕ → Events → Events
retold_by (Some ready) object events watched before = ready_events ready
retold_by None object events watched before = (if watched == object then events else before)

abbrev pub retold_events : List OpenSet → ℕ → Events → ℕ → Events → Events
retold_events sets object events watched before = retold_by (ready_in sets watched) object events watched before

abbrev pub retold_of : List OpenSet → ℕ → Events → Watch → Option ObjKey → Watch
retold_of sets object events watch None = watch
retold_of sets object events watch (Some watched) = record { object = Some watched; events = retold_events sets object events watched.serial watch.events }

abbrev pub retold : List OpenSet → ℕ → Events → Watch → Watch
retold sets object events watch = retold_of sets object events watch watch.object
