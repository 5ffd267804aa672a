-- What a store's value is, where there is one.
use Rattle.std.specs.Prelude.{Option, Some, None}
use Rattle.kernel_values.specs.declared.state.Body.{Body}
use Rattle.kernel_values.specs.declared.state.ChannelEnd.{ChannelEnd}
use Rattle.kernel_values.specs.declared.state.HandleSet.{HandleSet}
use Rattle.kernel_values.specs.declared.state.MemoryRef.{MemoryRef}
use Rattle.kernel_values.specs.declared.state.Port.{Port}
use Rattle.kernel_types.specs.Objects.{end_in, memory_in, port_in, set_in}

abbrev pub port_if : Option Body → Option Port
port_if None = None
port_if (Some b) = port_in b

abbrev pub end_if : Option Body → Option ChannelEnd
end_if None = None
end_if (Some b) = end_in b

abbrev pub set_if : Option Body → Option HandleSet
set_if None = None
set_if (Some b) = set_in b

abbrev pub memory_if : Option Body → Option MemoryRef
memory_if None = None
memory_if (Some b) = memory_in b
