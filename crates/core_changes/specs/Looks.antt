-- What a call sees of an object, of a message and of the way of a connect.
use Rattle.std.specs.Prelude.{ℕ, List, [], ◌∷◌, Option, Some, None, length}
use Rattle.kernel_values.specs.declared.state.ChannelEnd.{ChannelEnd}
use Rattle.kernel_values.specs.declared.state.HandleSet.{HandleSet}
use Rattle.kernel_values.specs.declared.state.Member.{Member}
use Rattle.kernel_values.specs.declared.state.MemoryRef.{MemoryRef}
use Rattle.kernel_values.specs.declared.state.Message.{Message}
use Rattle.kernel_values.specs.declared.state.Port.{Port}
use Rattle.kernel_types.specs.Connects.{Way}
use Rattle.kernel_types.specs.Connects.Way.{to_port, to_start, to_nothing}
use Rattle.core_changes.specs.declared.looks.EndLook.{EndLook}
use Rattle.core_changes.specs.declared.looks.MemoryLook.{MemoryLook}
use Rattle.core_changes.specs.declared.looks.MessageLook.{MessageLook}
use Rattle.core_changes.specs.declared.looks.PortLook.{PortLook}
use Rattle.core_changes.specs.declared.looks.WayLook.{WayLook}
use Rattle.core_changes.specs.declared.looks.WayLook.TheVariants as way

abbrev pub look_of_end : ChannelEnd → EndLook
look_of_end end = record {
  state = end.state;
  peer = end.peer;
  client = end.client;
  slots = end.slots;
  size = end.size;
  held = length end.messages;
  sent = end.sent;
  accepted = end.accepted;
}

abbrev pub look_of_message : Message → MessageLook
look_of_message message = record { seq = message.seq; len = length message.bytes; parts = length message.parts }

abbrev pub first_in : List ℕ → Option ℕ
first_in [] = None
first_in (server ∷ rest) = Some server

abbrev pub look_of_port : Port → PortLook
look_of_port port = record { first = first_in port.pending }

abbrev pub look_of_memory : MemoryRef → MemoryLook
look_of_memory memory = record { len = length memory.bytes; flags = memory.flags }

abbrev pub look_of_way : Way → WayLook
look_of_way (to_port id port) = way.ToPort port.flags
look_of_way (to_start place flags) = way.ToStart flags
look_of_way to_nothing = way.ToNothing

-- an end that is not there holds no message, a memory reference that is not there no byte, a set that is not there no member

abbrev pub messages_in : Option ChannelEnd → List Message
messages_in None = []
messages_in (Some end) = end.messages

abbrev pub bytes_in : Option MemoryRef → List ℕ
bytes_in None = []
bytes_in (Some memory) = memory.bytes

abbrev pub message_bytes : Option Message → List ℕ
message_bytes None = []
message_bytes (Some message) = message.bytes

abbrev pub message_parts : Option Message → List ℕ
message_parts None = []
message_parts (Some message) = message.parts

abbrev pub members_in : Option HandleSet → List Member
members_in None = []
members_in (Some set) = set.members

abbrev pub pending_in : Option Port → List ℕ
pending_in None = []
pending_in (Some port) = port.pending
