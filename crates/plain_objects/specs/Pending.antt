-- The server ends that are pending at a port, which are taken out of the list of objects to be looked through.
use Rattle.std.specs.Prelude.{ℕ, List, [], Option, Some, None, slice_get}
use Rattle.kernel_values.specs.declared.state.Object.{Object}
use Rattle.kernel_values.specs.declared.state.Port.{Port}
use Rattle.kernel_types.specs.Objects.{as_port, map_at, on_body, on_port}

abbrev pub pending_of : Option Port → List ℕ
pending_of None = []
pending_of (Some port) = port.pending

-- what is pending at the port of this place; nothing where there is no port
abbrev pub pending_at : List Object → ℕ → List ℕ
pending_at objects at = pending_of (as_port (slice_get objects at))

abbrev pub with_pending : List ℕ → List Object → ℕ → List Object
with_pending pending objects at = map_at (on_body (on_port (λ port. record port { pending = pending }))) objects at
