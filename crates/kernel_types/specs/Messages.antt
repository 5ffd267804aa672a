-- `send`, `get`, `read` and `put`.
use Rattle.std.specs.Prelude.{ℕ, Bool, true, false, List, [], ◌∷◌, ◌++◌, ◌+◌, ◌==◌, ◌&&◌, ◌||◌, not, nat_lt, nat_le, length, min, map, take, drop, Option, Some, None, if◌then◌else◌}
use Rattle.std.specs.List.{find, filter, list_any, list_all, position_or_len, range_with_len}
use Rattle.std.specs.Option.{is_some, unwrap_or}
use Rattle.kernel_values.specs.declared.reply.Reply.TheVariants as reply
use Rattle.kernel_values.specs.declared.errno.Errno.TheVariants as errno
use Rattle.kernel_values.specs.declared.state.Object.{Object}
use Rattle.kernel_values.specs.declared.state.ChannelEnd.{ChannelEnd}
use Rattle.kernel_values.specs.declared.state.Message.{Message}
use Rattle.kernel_values.specs.declared.state.EndState.{EndState}
use Rattle.kernel_values.specs.declared.state.EndState.TheVariants as end_state
use Rattle.kernel_values.specs.declared.state.Connector.{Connector}
use Rattle.kernel_values.specs.declared.state.Connector.TheVariants as connector
use Rattle.kernel_values.specs.declared.state.TableEntry.{TableEntry}
use Rattle.kernel_values.specs.declared.state.CoreState.{CoreState}
use Rattle.kernel_types.specs.Objects.{map_at, end_of, memory_of, end_changed}
use Rattle.kernel_types.specs.Tables.{table_of, entry_at, has_room, free_handle, installed, with_table}
use Rattle.kernel_types.specs.Events.{is_filled, is_disconnected}
use Rattle.kernel_types.specs.Connects.{client_of}
use Rattle.kernel_types.specs.Outcome.{Outcome, gives, gives_with, refuses, sent_seq, opened_seq, retired_seq}

-- no port yet, or nobody accepted
abbrev pub is_unconnected : EndState → Bool
is_unconnected end_state.Waiting = true
is_unconnected end_state.Connecting = true
is_unconnected _ = false

-- Send. Its refusals are tested over all parts, one kind after another.

abbrev pub part_limit : ℕ
part_limit = 8

abbrev pub is_in_table : List TableEntry → ℕ → Bool
is_in_table table handle = is_some (entry_at table handle)

abbrev pub is_memory_entry : List Object → Option TableEntry → Bool
is_memory_entry objects None = false
is_memory_entry objects (Some entry) = is_some (memory_of objects entry.object)

abbrev pub entry_object : Option TableEntry → ℕ
entry_object None = 0
entry_object (Some entry) = entry.object

-- the objects that the numbers name
abbrev pub part_objects : List TableEntry → List ℕ → List ℕ
part_objects table parts = map (λ handle. entry_object (entry_at table handle)) parts

abbrev pub is_normal_world : Option Connector → Bool
is_normal_world (Some connector.NormalWorld) = true
is_normal_world _ = false

-- the end that a client of the normal world made belongs to the bridge
abbrev pub is_bridge_end : Option ChannelEnd → Bool
is_bridge_end end = is_normal_world (client_of end)

-- the peer of an end, where it is there
abbrev pub peer_end : List Object → Option ℕ → Option ChannelEnd
peer_end objects None = None
peer_end objects (Some peer) = end_of objects peer

abbrev pub has_parts : List ℕ → Bool
has_parts [] = false
has_parts (part ∷ parts) = true

-- an end holds as many messages, filled or opened, as it has slots
abbrev pub is_full_end : ChannelEnd → Bool
is_full_end end = nat_le end.slots (length end.messages)

abbrev pub new_message : ℕ → List ℕ → List ℕ → Message
new_message seq bytes parts = record { seq = seq; bytes = bytes; parts = parts; opened = None }

abbrev pub with_message : List ℕ → List ℕ → ChannelEnd → ChannelEnd
with_message bytes parts end = record end { messages = end.messages ++ (new_message end.sent bytes parts) ∷ []; sent = end.sent + 1 }

abbrev pub blocked_end : ChannelEnd → ChannelEnd
blocked_end end = record end { blocked = true; unblocked = false }

abbrev pub deliver : CoreState → ℕ → Option ℕ → Option ChannelEnd → List ℕ → List ℕ → Outcome
deliver c id (Some peer) (Some end) bytes parts =
    (if is_full_end end then refuses errno.NotEnoughBuffer (end_changed blocked_end id c)
    else gives_with (reply.Count (length bytes)) (sent_seq peer end.sent) (end_changed (with_message bytes parts) peer c))
deliver c id _ _ bytes parts = refuses errno.ChannelClosed c

abbrev pub has_unsendable_part : CoreState → List TableEntry → Option ChannelEnd → List ℕ → Bool
has_unsendable_part c table peer parts =
    not (list_all (λ handle. is_memory_entry c.objects (entry_at table handle)) parts) || (has_parts parts && is_bridge_end peer)

abbrev pub send_parts : CoreState → ℕ → List TableEntry → Option ℕ → List ℕ → List ℕ → Outcome
send_parts c id table peer bytes parts =
    (if not (list_all (is_in_table table) parts) then refuses errno.BadHandle c
    else if has_unsendable_part c table (peer_end c.objects peer) parts then refuses errno.NotSupported c
    else deliver c id peer (peer_end c.objects peer) bytes (part_objects table parts))

abbrev pub send_from : CoreState → ℕ → List TableEntry → List ℕ → List ℕ → Option ChannelEnd → Outcome
send_from c id table bytes parts None = refuses errno.InvalidArgs c
send_from c id table bytes parts (Some end) =
    (if nat_lt part_limit (length parts) then refuses errno.InvalidArgs c
    else if is_unconnected end.state then refuses errno.NotReady c
    else if is_disconnected end.state then refuses errno.ChannelClosed c
    else if nat_lt end.size (length bytes) then refuses errno.TooBig c
    else send_parts c id table end.peer bytes parts)

abbrev pub send_entry : CoreState → List TableEntry → List ℕ → List ℕ → Option TableEntry → Outcome
send_entry c table bytes parts None = refuses errno.BadHandle c
send_entry c table bytes parts (Some entry) = send_from c entry.object table bytes parts (end_of c.objects entry.object)

unfoldable pub send : CoreState → ℕ → ℕ → List ℕ → List ℕ → Outcome
send c app chan bytes parts = send_entry c (table_of c app) bytes parts (entry_at (table_of c app) chan)

-- Get. The oldest filled message becomes open.

abbrev pub has_id : ℕ → Option ℕ → Bool
has_id id None = false
has_id id (Some other) = other == id

abbrev pub is_opened_as : ℕ → Message → Bool
is_opened_as id message = has_id id message.opened

abbrev pub is_free_id : List Message → ℕ → Bool
is_free_id messages id = not (list_any (is_opened_as id) messages)

-- the least number from 1 that no open message of the end has; one of one more number than there are messages
unfoldable pub free_id : List Message → ℕ
free_id messages = unwrap_or (find (is_free_id messages) (range_with_len 1 (length messages + 1))) 0

abbrev pub opened_as : ℕ → Message → Message
opened_as id message = record message { opened = Some id }

-- the oldest filled message is opened under this id
abbrev pub with_opened : ℕ → ChannelEnd → ChannelEnd
with_opened id end = record end { messages = map_at (opened_as id) end.messages (position_or_len is_filled end.messages) }

abbrev pub get_message : CoreState → ℕ → ChannelEnd → Option Message → Outcome
get_message c object end None = (if is_disconnected end.state then refuses errno.ChannelClosed c else refuses errno.NoMsg c)
get_message c object end (Some message) =
    gives_with (reply.Message (free_id end.messages) (length message.bytes) (length message.parts)) (opened_seq object message.seq)
    (end_changed (with_opened (free_id end.messages)) object c)

abbrev pub get_from : CoreState → ℕ → Option ChannelEnd → Outcome
get_from c object None = refuses errno.InvalidArgs c
get_from c object (Some end) =
    (if is_unconnected end.state then refuses errno.NotReady c
    else get_message c object end (find is_filled end.messages))

abbrev pub get_entry : CoreState → Option TableEntry → Outcome
get_entry c None = refuses errno.BadHandle c
get_entry c (Some entry) = get_from c entry.object (end_of c.objects entry.object)

unfoldable pub get : CoreState → ℕ → ℕ → Outcome
get c app chan = get_entry c (entry_at (table_of c app) chan)

-- Read. It gives a part of an open message's bytes, and new numbers for the first of its handles, which the message keeps.

-- a table with new entries for these objects in order
abbrev pub all_installed : List TableEntry → List ℕ → List TableEntry
all_installed table [] = table
all_installed table (object ∷ objects) = all_installed (installed table object) objects

-- the numbers of those entries
abbrev pub all_handles : List TableEntry → List ℕ → List ℕ
all_handles table [] = []
all_handles table (object ∷ objects) = free_handle table ∷ all_handles (installed table object) objects

abbrev pub read_message : CoreState → ℕ → Message → ℕ → ℕ → ℕ → Outcome
read_message c app message offset room parts =
    (if nat_lt (length message.bytes) offset then refuses errno.InvalidArgs c
    else if not (has_room (min parts (length message.parts)) (table_of c app)) then refuses errno.NoResources c
    else gives (reply.Bytes (take room (drop offset message.bytes)) (all_handles (table_of c app) (take parts message.parts)))
    (with_table (λ table. all_installed table (take parts message.parts)) app c))

abbrev pub read_opened : CoreState → ℕ → Option Message → ℕ → ℕ → ℕ → Outcome
read_opened c app None offset room parts = refuses errno.InvalidArgs c
read_opened c app (Some message) offset room parts = read_message c app message offset room parts

abbrev pub read_from : CoreState → ℕ → Option ChannelEnd → ℕ → ℕ → ℕ → ℕ → Outcome
read_from c app None id offset room parts = refuses errno.InvalidArgs c
read_from c app (Some end) id offset room parts = read_opened c app (find (is_opened_as id) end.messages) offset room parts

abbrev pub read_entry : CoreState → ℕ → Option TableEntry → ℕ → ℕ → ℕ → ℕ → Outcome
read_entry c app None id offset room parts = refuses errno.BadHandle c
read_entry c app (Some entry) id offset room parts = read_from c app (end_of c.objects entry.object) id offset room parts

unfoldable pub read : CoreState → ℕ → ℕ → ℕ → ℕ → ℕ → ℕ → Outcome
read c app chan id offset room parts = read_entry c app (entry_at (table_of c app) chan) id offset room parts

-- Put. The message is retired; a peer that is blocked becomes unblocked.

abbrev pub without_opened : ℕ → ChannelEnd → ChannelEnd
without_opened id end = record end { messages = filter (λ message. not (is_opened_as id message)) end.messages }

abbrev pub unblocked_end : ChannelEnd → ChannelEnd
unblocked_end end = record end { blocked = false; unblocked = end.unblocked || end.blocked }

abbrev pub peer_unblocked : Option ℕ → CoreState → CoreState
peer_unblocked None c = c
peer_unblocked (Some peer) c = end_changed unblocked_end peer c

abbrev pub put_message : CoreState → ℕ → ChannelEnd → ℕ → Option Message → Outcome
put_message c object end id None = refuses errno.InvalidArgs c
put_message c object end id (Some message) =
    gives_with reply.Done (retired_seq object message.seq) (peer_unblocked end.peer (end_changed (without_opened id) object c))

abbrev pub put_from : CoreState → ℕ → ℕ → Option ChannelEnd → Outcome
put_from c object id None = refuses errno.InvalidArgs c
put_from c object id (Some end) = put_message c object end id (find (is_opened_as id) end.messages)

abbrev pub put_entry : CoreState → ℕ → Option TableEntry → Outcome
put_entry c id None = refuses errno.BadHandle c
put_entry c id (Some entry) = put_from c entry.object id (end_of c.objects entry.object)

unfoldable pub put : CoreState → ℕ → ℕ → ℕ → Outcome
put c app chan id = put_entry c id (entry_at (table_of c app) chan)
