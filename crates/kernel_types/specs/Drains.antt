-- What the driver finds in the used rings, and what it makes of the frames there.
use Rattle.std.specs.Prelude.{ℕ, Bool, List, [], ◌∷◌, ◌++◌, ◌==◌, ◌&&◌, nat_lt, nat_le, map, drop, Option, Result, Ok, Err, slice_get, if◌then◌else◌}
use Rattle.std.specs.List.{filter, fold, insert, list_any, position_or_len}
use Rattle.kernel_types.specs.Objects.{map_at}
use Rattle.tipc_proto.specs.declared.frames.Frame.{Frame}
use Rattle.tipc_proto.specs.declared.faults.FrameFault.{FrameFault}
use Rattle.tipc_proto.specs.declared.controls.Control.{Control}
use Rattle.tipc_proto.specs.declared.controls.Control.TheVariants.{ConnRsp, DiscReq}
use Rattle.tipc_proto.specs.Frames.{frame_in}
use Rattle.tipc_proto.specs.Controls.{control_in}
use Rattle.kernel_values.specs.declared.world.Connection.{Connection}
use Rattle.kernel_values.specs.declared.world.ConnectionStatus.{ConnectionStatus}
use Rattle.kernel_values.specs.declared.world.ConnectionStatus.TheVariants as connection_status
use Rattle.kernel_values.specs.declared.world.Driver.{Driver}
use Rattle.kernel_values.specs.declared.world.World.{World}
use Rattle.kernel_types.specs.GuestMemory.{UsedElement, ring, new_elements, used_idx, buffer_count, buffer_size, buffer_start, read_at, given}
use Rattle.kernel_types.specs.Sending.{control_address}

-- Connections, by their addresses. One that is not there changes nothing.

abbrev pub connection_place : List Connection → ℕ → ℕ
connection_place connections address = position_or_len (λ connection. connection.address == address) connections

abbrev pub connection_of : List Connection → ℕ → Option Connection
connection_of connections address = slice_get connections (connection_place connections address)

abbrev pub connection_changed : (Connection → Connection) → List Connection → ℕ → List Connection
connection_changed change connections address = map_at change connections (connection_place connections address)

abbrev pub status_changed : (ConnectionStatus → ConnectionStatus) → Connection → Connection
status_changed change connection = record connection { status = change connection.status }

-- A frame is delivered by its receiver's address: an answer to a connection that was asked for, an end or bytes to an
-- established one. Everything else is dropped.

abbrev pub answered_status : ℕ → ℕ → ℕ → ConnectionStatus → ConnectionStatus
answered_status status remote size connection_status.Asked = (if status == 0 then connection_status.Established remote size else connection_status.Denied status)
answered_status status remote size other = other

abbrev pub left_status : ConnectionStatus → ConnectionStatus
left_status (connection_status.Established remote size) = connection_status.Shut
left_status other = other

abbrev pub with_bytes : List ℕ → ConnectionStatus → List (List ℕ) → List (List ℕ)
with_bytes bytes (connection_status.Established remote size) inbox = inbox ++ bytes ∷ []
with_bytes bytes other inbox = inbox

abbrev pub received_by : List ℕ → Connection → Connection
received_by bytes connection = record connection { inbox = with_bytes bytes connection.status connection.inbox }

abbrev pub deliver_control : List Connection → Result Control FrameFault → List Connection
deliver_control connections (Ok (ConnRsp target status remote size count)) =
    connection_changed (status_changed (answered_status status remote size)) connections target
deliver_control connections (Ok (DiscReq target)) = connection_changed (status_changed left_status) connections target
deliver_control connections other = connections

abbrev pub deliver_frame : List Connection → List ℕ → Result Frame FrameFault → List Connection
deliver_frame connections payload (Ok f) =
    (if f.dst == control_address then deliver_control connections (control_in payload)
    else connection_changed (received_by payload) connections f.dst)
deliver_frame connections payload (Err fault) = connections

unfoldable pub delivered : List Connection → List ℕ → List Connection
delivered connections bytes = deliver_frame connections (drop 16 bytes) (frame_in bytes)

-- Queue 0: an element of a buffer that the driver gave, with no more bytes than it has, is read; the buffer is then given
-- again. Every other element is skipped.

abbrev pub is_readable : ℕ → UsedElement → Bool
is_readable size element = nat_lt element.id (buffer_count size) && nat_le element.len buffer_size

abbrev pub readable_elements : World → List UsedElement
readable_elements w = filter (is_readable w.driver.size) (new_elements w.memory (ring 0 w.driver.size) w.driver.seen_to_normal)

abbrev pub frame_at : List ℕ → UsedElement → List ℕ
frame_at memory element = read_at (buffer_start 0 element.id) element.len memory

-- the frames that a drain delivers, in their order
unfoldable pub drained_frames : World → List (List ℕ)
drained_frames w = map (frame_at w.memory) (readable_elements w)

abbrev pub with_driver : Driver → World → World
with_driver driver w = record w { driver = driver }

unfoldable pub to_normal_drained : World → World
to_normal_drained w = record w {
  memory = fold (given w.driver.size) w.memory (map (λ element. element.id) (readable_elements w));
  driver = record w.driver {
    seen_to_normal = used_idx w.memory 0;
    connections = fold delivered w.driver.connections (drained_frames w);
  };
}

-- Queue 1: a descriptor that comes back is free. Every other element is skipped.

abbrev pub with_free : List ℕ → ℕ → List ℕ
with_free free place =
    (if list_any (λ other. other == place) free then free
    else insert free (position_or_len (λ other. nat_lt place other) free) place)

abbrev pub freed_places : World → List ℕ
freed_places w = filter (λ place. nat_lt place (buffer_count w.driver.size))
    (map (λ element. element.id) (new_elements w.memory (ring 1 w.driver.size) w.driver.seen_from_normal))

unfoldable pub from_normal_drained : World → World
from_normal_drained w = with_driver (record w.driver {
  seen_from_normal = used_idx w.memory 1;
  free = fold with_free w.driver.free (freed_places w);
}) w

-- the world after the driver looked at both queues
abbrev pub drained : World → World
drained w = from_normal_drained (to_normal_drained w)
