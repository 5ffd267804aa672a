-- How large the objects of a state are, and how much an answer holds.
use Rattle.std.specs.Prelude.{◌≡◌, ◌≤◌, ℕ, Bool, true, false, length, if◌then◌else◌}
use Rattle.std.specs.List.{All}
use Rattle.kernel_values.specs.declared.call.Call.{Call}
use Rattle.kernel_values.specs.declared.call.Call.TheVariants as call
use Rattle.kernel_values.specs.declared.entry.Event.{Event}
use Rattle.kernel_values.specs.declared.entry.Event.TheVariants as event
use Rattle.kernel_values.specs.declared.reply.Answer.{Answer}
use Rattle.kernel_values.specs.declared.reply.Answer.TheVariants as answer
use Rattle.kernel_values.specs.declared.reply.DeviceReply.{DeviceReply}
use Rattle.kernel_values.specs.declared.reply.DeviceReply.TheVariants as device
use Rattle.kernel_values.specs.declared.reply.Reply.{Reply}
use Rattle.kernel_values.specs.declared.reply.Reply.TheVariants as reply
use Rattle.kernel_values.specs.declared.state.Body.{Body}
use Rattle.kernel_values.specs.declared.state.Body.TheVariants as body
use Rattle.kernel_values.specs.declared.state.ChannelEnd.{ChannelEnd}
use Rattle.kernel_values.specs.declared.state.Message.{Message}
use Rattle.kernel_values.specs.declared.state.Port.{Port}
use Rattle.kernel_values.specs.declared.state.State.{State}
use Rattle.kernel_values.specs.declared.world.Connection.{Connection}
use Rattle.kernel_types.specs.Facts.{is_client}
use Rattle.kernel_types.specs.GuestMemory.{buffer_size}
use Rattle.kernel_types.specs.Memories.{memory_limit}
use Rattle.kernel_types.specs.Messages.{part_limit}
use Rattle.kernel_types.specs.Ports.{is_waiting, message_limit, slot_limit}
use Rattle.kernel_types.specs.Sets.{member_limit}

-- a message has at most 4,096 bytes and 8 parts
pub record IsMessageWithin (message : Message) : Type 0 where
  pub bytes : length message.bytes ≤ message_limit
  pub parts : length message.parts ≤ part_limit

-- a port has at most 32 buffers of at most 4,096 bytes
pub record IsPortWithin (port : Port) : Type 0 where
  pub size : port.size ≤ message_limit
  pub bufs : port.bufs ≤ slot_limit

-- an end has at most 32 slots of at most 4,096 bytes, and none where no port is there yet; it holds at most as many messages as it has slots
pub record IsEndWithin (end : ChannelEnd) : Type 0 where
  pub size : end.size ≤ message_limit
  pub slots : end.slots ≤ slot_limit
  pub waiting : is_waiting end.state ≡ true → end.slots ≡ 0
  pub few : length end.messages ≤ end.slots
  pub messages : All IsMessageWithin end.messages

-- a set has at most 64 members, and a memory reference at most 65,536 bytes
abbrev pub IsBodyWithin : Body → Type 0
IsBodyWithin (body.Port port) = IsPortWithin port
IsBodyWithin (body.End end) = IsEndWithin end
IsBodyWithin (body.Set set) = length set.members ≤ member_limit
IsBodyWithin (body.Memory memory) = length memory.bytes ≤ memory_limit

-- what came for a connection of the normal world came in one buffer each
abbrev pub IsInboxWithin : Connection → Type 0
IsInboxWithin connection = All (λ bytes. length bytes ≤ buffer_size) connection.inbox

pub record IsWithinLimits (s : State) : Type 0 where
  pub objects : All (λ object. IsBodyWithin object.body) s.core.objects
  pub inboxes : All IsInboxWithin s.world.driver.connections

-- how many bytes an answer holds

abbrev pub bytes_of_reply : Reply → ℕ
bytes_of_reply (reply.Bytes bytes parts) = length bytes
bytes_of_reply _ = 0

abbrev pub bytes_of_device : DeviceReply → ℕ
bytes_of_device (device.TookReq src path) = length path
bytes_of_device _ = 0

abbrev pub bytes_of : Answer → ℕ
bytes_of (answer.Gives reply) = bytes_of_reply reply
bytes_of (answer.Device reply) = bytes_of_device reply
bytes_of _ = 0

-- how many handles an answer holds

abbrev pub handles_of_reply : Reply → ℕ
handles_of_reply (reply.Handle handle) = 1
handles_of_reply (reply.Accepted handle uuid) = 1
handles_of_reply (reply.Bytes bytes parts) = length parts
handles_of_reply (reply.Event handle events cookie) = 1
handles_of_reply _ = 0

abbrev pub handles_of : Answer → ℕ
handles_of (answer.Gives reply) = handles_of_reply reply
handles_of _ = 0

pub record IsSmallAnswer (answer : Answer) : Type 0 where
  pub bytes : bytes_of answer ≤ memory_limit
  pub handles : handles_of answer ≤ part_limit

-- How much an answer lists: the bytes and the handles that a copy of it needs room for.

abbrev pub listed_in_reply : Reply → ℕ
listed_in_reply (reply.Bytes bytes parts) = length parts
listed_in_reply _ = 0

abbrev pub listed_in : Answer → ℕ
listed_in (answer.Gives reply) = listed_in_reply reply
listed_in _ = 0

pub record Room : Type 0 where
  pub bytes : ℕ
  pub handles : ℕ

abbrev pub no_room : Room
no_room = record { bytes = 0; handles = 0 }

abbrev pub full_room : Room
full_room = record { bytes = memory_limit; handles = part_limit }

-- a path
abbrev pub path_room : Room
path_room = record { bytes = 63; handles = 0 }

-- `read`, `mread` and `nrecv` answer lists, and no other call does
abbrev pub room_of_call : Call → Room
room_of_call (call.Read chan id offset room parts) = full_room
room_of_call (call.MemRead handle offset len) = full_room
room_of_call (call.NsRecv conn timeout) = full_room
room_of_call _ = no_room

-- whether a client's wait ends
abbrev pub resumes_client : State → Event → Bool
resumes_client s (event.Resume actor start) = is_client s actor.0
resumes_client s other = false

-- the end of a thread's wait lists nothing; that of a client's may be a receive, and the device may tell a path
abbrev pub room_by : Bool → Event → Room
room_by of_client (event.Begin actor start asked) = room_of_call asked
room_by of_client (event.Resume actor start) = (if of_client then full_room else no_room)
room_by of_client event.Device = path_room
room_by of_client event.Idle = no_room

abbrev pub room_of : State → Event → Room
room_of s e = room_by (resumes_client s e) e

pub record FitsIn (room : Room) (answer : Answer) : Type 0 where
  pub bytes : bytes_of answer ≤ room.bytes
  pub handles : listed_in answer ≤ room.handles
