-- A port whose first pending server end is accepted.
use Rattle.std.specs.Prelude.{ℕ, List}
use Rattle.kernel_values.specs.declared.state.Port.{Port}

-- a port with these pending server ends
abbrev pub listing : List ℕ → Port → Port
listing pending port = record port { pending = pending }
