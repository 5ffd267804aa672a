-- A state in which objects of each kind stand in each way that matters here: a port, a connected pair with a part under way, a pending pair, a memory
-- reference, a set in a set, and an end that waits for its port.
use Rattle.std.specs.Prelude.{ℕ, Bool, true, false, List, [], ◌∷◌, Some, None}
use Rattle.kernel_values.specs.declared.flags.Events.{Events}
use Rattle.kernel_values.specs.declared.flags.MemFlags.{MemFlags}
use Rattle.kernel_values.specs.declared.flags.PortFlags.{PortFlags}
use Rattle.kernel_values.specs.declared.state.Body.TheVariants as body
use Rattle.kernel_values.specs.declared.state.ChannelEnd.{ChannelEnd}
use Rattle.kernel_values.specs.declared.state.Connector.TheVariants as connector
use Rattle.kernel_values.specs.declared.state.CoreState.{CoreState}
use Rattle.kernel_values.specs.declared.state.EndState.TheVariants as end_state
use Rattle.kernel_values.specs.declared.state.Object.{Object}
use Rattle.kernel_values.specs.declared.state.Port.{Port}
use Rattle.kernel_types.specs.Objects.{new_end}
use Rattle.kernel_types.specs.Sets.{new_member}

-- an end of the connected pair
abbrev pub joined : Bool → ChannelEnd → ChannelEnd
joined ready end = record end { state = end_state.Connected; accepted = true; ready = ready }

module _ (path : List ℕ) (flags : PortFlags) (mem : MemFlags) (mask : Events) where
  abbrev pub port_with : List ℕ → Port
  port_with pending = record { path = path; bufs = 2; size = 64; flags = flags; pending = pending }

  abbrev pub objects : List Object
  objects =
      (record { id = 0; body = body.Port (port_with (4 ∷ [])) })
      ∷ (record { id = 1; body = body.End (joined true (new_end (Some 2) end_state.Connecting None (Some (connector.App 0)) 2 64)) })
      ∷ (record { id = 2; body = body.End (record (joined false (new_end (Some 1) end_state.Connecting None None 2 64)) { messages = (record { seq = 0; bytes = 7 ∷ []; parts = 5 ∷ []; opened = None }) ∷ []; sent = 1 }) })
      ∷ (record { id = 3; body = body.End (new_end (Some 4) end_state.Connecting None (Some connector.NormalWorld) 2 64) })
      ∷ (record { id = 4; body = body.End (new_end (Some 3) end_state.Connecting None None 2 64) })
      ∷ (record { id = 5; body = body.Memory (record { bytes = 1 ∷ 2 ∷ []; flags = mem }) })
      ∷ (record { id = 6; body = body.Set (record { members = new_member 9 7 mask 0 ∷ [] }) })
      ∷ (record { id = 7; body = body.Set (record { members = new_member 8 0 mask 0 ∷ [] }) })
      ∷ (record { id = 8; body = body.End (new_end None end_state.Waiting (Some (1 ∷ [])) (Some (connector.App 1)) 0 0) })
      ∷ []

-- with whatever applications, threads and clock around the objects
abbrev pub worked : (path : List ℕ) (flags : PortFlags) (mem : MemFlags) (mask : Events) → CoreState → CoreState
worked path flags mem mask c = record c { objects = objects path flags mem mask; next = 9 }
