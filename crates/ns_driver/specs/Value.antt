-- What a driver stands for: the driver of the model, and for each client what it waits for, by what the driver was told last.
use Rattle.std.specs.Prelude.{ℕ, ◌<◌, ◌≤◌, List, Option, None, slice_get}
use Rattle.std.specs.List.{All}
use Rattle.std.specs.Option.{unwrap_or}
use Rattle.kernel_values.specs.declared.world.ClientWaitOn.{ClientWaitOn}
use Rattle.kernel_values.specs.declared.world.Driver.{Driver}
use Rattle.kernel_types.specs.GuestMemory.{buffer_count}

pub record DriverValue : Type 0 where
  pub driver : Driver
  pub waits : List (Option ClientWaitOn)

-- what a client waits for
abbrev pub wait_of : List (Option ClientWaitOn) → ℕ → Option ClientWaitOn
wait_of waits client = unwrap_or (slice_get waits client) None

-- the size is that of a ring, and each free descriptor has a buffer
pub record IsSound (d : Driver) : Type 0 where
  pub low : 1 ≤ d.size
  pub high : d.size ≤ 256
  pub free : All (λ place. place < buffer_count d.size) d.free
