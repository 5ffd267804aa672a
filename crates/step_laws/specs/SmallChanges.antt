-- The small changes of tables and objects of which every step is made, each with what was tested before it.
use Rattle.std.specs.Prelude.{◌≡◌, ◌<◌, ◌≤◌, ◌==◌, ◌&&◌, ℕ, Bool, true, false, List, [], ◌∷◌, length, min, take, Option, Some, slice_get}
use Rattle.std.specs.List.{list_all, list_any, find}
use Rattle.std.specs.Option.{is_some}
use Rattle.kernel_values.specs.declared.entry.EndSeq.{EndSeq}
use Rattle.kernel_values.specs.declared.flags.Events.{Events}
use Rattle.kernel_values.specs.declared.flags.MemFlags.{MemFlags}
use Rattle.kernel_values.specs.declared.flags.PortFlags.{PortFlags}
use Rattle.kernel_values.specs.declared.state.Body.{Body}
use Rattle.kernel_values.specs.declared.state.Body.TheVariants as body
use Rattle.kernel_values.specs.declared.state.ChannelEnd.{ChannelEnd}
use Rattle.kernel_values.specs.declared.state.Connector.{Connector}
use Rattle.kernel_values.specs.declared.state.Connector.TheVariants as connector
use Rattle.kernel_values.specs.declared.state.CoreState.{CoreState}
use Rattle.kernel_values.specs.declared.state.HandleSet.{HandleSet}
use Rattle.kernel_values.specs.declared.state.Member.{Member}
use Rattle.kernel_values.specs.declared.state.MemoryRef.{MemoryRef}
use Rattle.kernel_values.specs.declared.state.Message.{Message}
use Rattle.kernel_values.specs.declared.state.Port.{Port}
use Rattle.kernel_values.specs.declared.state.TableEntry.{TableEntry}
use Rattle.kernel_types.specs.Bridge.{with_error}
use Rattle.kernel_types.specs.Connects.{Way, accept_client, accepted_end, peer_of, pending_pair, unready, waiting_client, way_of}
use Rattle.kernel_types.specs.Connects.Way.{to_port, to_start, to_nothing}
use Rattle.kernel_types.specs.Events.{events_of, is_disconnected, is_filled, is_ready_member}
use Rattle.kernel_types.specs.Memories.{is_lawful_size, is_range, is_writable, new_memory, written}
use Rattle.kernel_types.specs.Messages.{all_installed, blocked_end, free_id, has_unsendable_part, is_full_end, is_in_table, is_normal_world, is_opened_as, is_unconnected, part_objects, peer_end, unblocked_end, with_message, with_opened, without_opened}
use Rattle.kernel_types.specs.Objects.{added, end_changed, end_of, is_there, memory_changed, memory_of, port_changed, port_of, published, set_changed, set_of}
use Rattle.kernel_types.specs.Outcome.{end_seq}
use Rattle.kernel_types.specs.Ports.{admits, is_lawful_port, new_port, publish}
use Rattle.kernel_types.specs.Reports.{has_events, in_turn, last_of, reported_end, with_last, with_last_reported}
use Rattle.kernel_types.specs.Sets.{is_label_in, remasked, without_label}
use Rattle.kernel_types.specs.Tables.{entry_at, has_room, install, installed, is_full, table_of, with_cookie, with_table, without}

-- What was tested.

abbrev pub is_app_connector : Option Connector → Bool
is_app_connector (Some (connector.App app)) = true
is_app_connector other = false

-- what an application makes to hold itself: no end, or the client end of a connection
abbrev pub is_of_app : Body → Bool
is_of_app (body.End end) = is_app_connector end.client
is_of_app other = true

-- the client end of a connection of the normal world
abbrev pub is_of_bridge : Body → Bool
is_of_bridge (body.End end) = is_normal_world end.client
is_of_bridge other = false

-- an object of this kind was made: its number was given, and it is there
pub record IsMade (such : Body → Bool) (b : CoreState) (object : ℕ) : Type 0 where
  pub given : object < b.next
  pub there : is_there b.objects object ≡ true
  pub made : list_any (λ other. other.id == object && such other.body) b.objects ≡ true

-- why an object may come to be named by an entry of the application's table: an entry of it names the object already, or the application made it
pub data Nameable (app : ℕ) (b : CoreState) (object : ℕ) : Type 0 where
  by_entry : (handle : ℕ) (entry : TableEntry) → entry_at (table_of b app) handle ≡ Some entry → entry.object ≡ object → Nameable app b object
  by_number : IsMade is_of_app b object → Nameable app b object

-- bytes may go from the end `from` to its peer `to`, which has a free slot
pub record MayDeliver (b : CoreState) (from : ℕ) (source : ChannelEnd) (to : ℕ) (end : ChannelEnd) (bytes : List ℕ) : Type 0 where
  pub source_there : end_of b.objects from ≡ Some source
  pub peer : source.peer ≡ Some to
  pub there : end_of b.objects to ≡ Some end
  pub room : is_full_end end ≡ false
  pub short : length bytes ≤ source.size

-- A message of the bridge has no parts. One of an application has at most 8, which its table has and which may be sent, and
-- goes from an end that is connected.
pub data Carries (by : Option ℕ) (b : CoreState) (source : ChannelEnd) (parts : List ℕ) : Type 0 where
  no_parts : parts ≡ [] → Carries by b source parts
  parts_held : (app : ℕ) (handles : List ℕ) → by ≡ Some app → parts ≡ part_objects (table_of b app) handles → is_unconnected source.state ≡ false
      → is_disconnected source.state ≡ false → length handles ≤ 8 → list_all (is_in_table (table_of b app)) handles ≡ true
      → has_unsendable_part b (table_of b app) (peer_end b.objects source.peer) handles ≡ false → Carries by b source parts

-- marks of an end, which leave its messages, its state, its peer and its slots
pub data Mark : Type 0 where
  mark_blocked : Mark
  mark_unblocked : Mark
  mark_decided : Mark
  mark_reported : ℕ → Mark
  mark_error : Mark

abbrev pub marked_by : Mark → ChannelEnd → ChannelEnd
marked_by mark_blocked = blocked_end
marked_by mark_unblocked = unblocked_end
marked_by mark_decided = unready
marked_by (mark_reported events) = reported_end events
marked_by mark_error = with_error

abbrev pub is_to_port : Way → Bool
is_to_port (to_port id port) = true
is_to_port (to_start place start) = false
is_to_port to_nothing = false

-- The changes. They are made for an application, by a call of one of its threads or as a wait of it ends, or else by the bridge.

pub data SmallChange (by : Option ℕ) (b : CoreState) : Type 0 where
  -- the table of the application, which an application alone changes
  cookie_changed : (app : ℕ) → by ≡ Some app → (handle cookie : ℕ) (entry : TableEntry) → entry_at (table_of b app) handle ≡ Some entry → SmallChange by b
  entry_removed : (app : ℕ) → by ≡ Some app → (handle : ℕ) (entry : TableEntry) → entry_at (table_of b app) handle ≡ Some entry → SmallChange by b
  entry_installed : (app : ℕ) → by ≡ Some app → (object : ℕ) → Nameable app b object → is_full (table_of b app) ≡ false → SmallChange by b
  parts_installed : (app : ℕ) → by ≡ Some app → (id number count : ℕ) (end : ChannelEnd) (message : Message) → end_of b.objects id ≡ Some end → find (is_opened_as number) end.messages ≡ Some message
      → has_room (min count (length message.parts)) (table_of b app) ≡ true → SmallChange by b
  last_changed : (app : ℕ) → by ≡ Some app → (entry : TableEntry) → find (has_events b.objects) (in_turn (last_of (slice_get b.apps app)) (table_of b app)) ≡ Some entry → SmallChange by b
  -- new objects
  memory_made : (size : ℕ) (flags : MemFlags) → is_lawful_size size ≡ true → SmallChange by b
  client_made : (client : Connector) (path : List ℕ) → is_to_port (way_of b path) ≡ false → SmallChange by b
  pair_made : (client : Connector) (path : List ℕ) (id : ℕ) (port : Port) → way_of b path ≡ to_port id port → admits port.flags client ≡ true → SmallChange by b
  port_made : (path : List ℕ) (bufs size : ℕ) (flags : PortFlags) → is_lawful_port path bufs size ≡ true → is_some (published b.objects path) ≡ false → SmallChange by b
  -- the members of sets, of which one is added by a call alone (`ThreadChange`)
  member_removed : (id label : ℕ) (set : HandleSet) → set_of b.objects id ≡ Some set → is_label_in set.members label ≡ true → SmallChange by b
  member_remasked : (id label : ℕ) (mask : Events) (cookie : ℕ) (set : HandleSet) → set_of b.objects id ≡ Some set → is_label_in set.members label ≡ true → SmallChange by b
  member_put_last : (id : ℕ) (member : Member) (set : HandleSet) → set_of b.objects id ≡ Some set → find (is_ready_member (events_of b.objects)) set.members ≡ Some member → SmallChange by b
  -- the bytes of a memory reference
  memory_written : (id offset : ℕ) (bytes : List ℕ) (memory : MemoryRef) → memory_of b.objects id ≡ Some memory → is_range memory offset (length bytes) ≡ true
      → is_writable memory.flags ≡ true → SmallChange by b
  -- messages
  message_sent : (from : ℕ) (source : ChannelEnd) (to : ℕ) (end : ChannelEnd) (bytes parts : List ℕ) → MayDeliver b from source to end bytes → Carries by b source parts → SmallChange by b
  message_opened : (id : ℕ) (end : ChannelEnd) (message : Message) → end_of b.objects id ≡ Some end → find is_filled end.messages ≡ Some message → SmallChange by b
  message_retired : (id number : ℕ) (end : ChannelEnd) (message : Message) → end_of b.objects id ≡ Some end → find (is_opened_as number) end.messages ≡ Some message → SmallChange by b
  end_marked : (mark : Mark) (id : ℕ) → SmallChange by b
  -- the first pending server end of a port is accepted: both ends are connected, and the application holds the server's
  end_accepted : (app : ℕ) → by ≡ Some app → (id server : ℕ) (rest : List ℕ) (port : Port) → port_of b.objects id ≡ Some port → port.pending ≡ server ∷ rest
      → is_full (table_of b app) ≡ false → SmallChange by b

-- the state in which the first pending server end of a port is accepted
abbrev pub after_accept : ℕ → ℕ → List ℕ → CoreState → CoreState
after_accept id server rest b =
    accept_client (peer_of (end_of b.objects server)) (end_changed (accepted_end false) server (port_changed (λ p. record p { pending = rest }) id b))

-- the state after the change
abbrev pub after : (by : Option ℕ) (b : CoreState) → SmallChange by b → CoreState
after by b (cookie_changed app of_app handle cookie entry held) = with_table (λ table. with_cookie table handle cookie) app b
after by b (entry_removed app of_app handle entry held) = with_table (λ table. without table handle) app b
after by b (entry_installed app of_app object nameable room) = with_table (λ table. installed table object) app b
after by b (parts_installed app of_app id number count end message there is_open room) = with_table (λ table. all_installed table (take count message.parts)) app b
after by b (last_changed app of_app entry first) = with_last_reported app entry.handle b
after by b (memory_made size flags lawful) = added (body.Memory (new_memory size flags)) b
after by b (client_made client path way) = waiting_client client path b
after by b (pair_made client path id port way lets) = pending_pair client id port b
after by b (port_made path bufs size flags lawful free) = publish (new_port path bufs size flags) b
after by b (member_removed id label set there known) = set_changed (without_label label) id b
after by b (member_remasked id label mask cookie set there known) = set_changed (remasked label mask cookie) id b
after by b (member_put_last id member set there ready) = set_changed (with_last member) id b
after by b (memory_written id offset bytes memory there range writable) = memory_changed (written offset bytes) id b
after by b (message_sent from source to end bytes parts may carries) = end_changed (with_message bytes parts) to b
after by b (message_opened id end message there first) = end_changed (with_opened (free_id end.messages)) id b
after by b (message_retired id number end message there is_open) = end_changed (without_opened number) id b
after by b (end_marked mark id) = end_changed (marked_by mark) id b
after by b (end_accepted app of_app id server rest port there first room) = install app server (after_accept id server rest b)

-- What happens to messages, each told by its end and its number there.
pub data Move : Type 0 where
  was_sent : EndSeq → Move
  was_opened : EndSeq → Move
  was_retired : EndSeq → Move

abbrev pub moves : (by : Option ℕ) (b : CoreState) → SmallChange by b → List Move
moves by b (message_sent from source to end bytes parts may carries) = was_sent (end_seq to end.sent) ∷ []
moves by b (message_opened id end message there first) = was_opened (end_seq id message.seq) ∷ []
moves by b (message_retired id number end message there is_open) = was_retired (end_seq id message.seq) ∷ []
moves by b _ = []
