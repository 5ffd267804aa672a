-- Tests and searches under one name each: a loop that takes the items that pass then goes by the name.
use Rattle.std.specs.Prelude.{ℕ, Bool, List, Option, Some, None, length, nat_lt, slice_get, not, if◌then◌else◌}
use Rattle.std.specs.List.{find}
use Rattle.kernel_values.specs.declared.state.Object.{Object}
use Rattle.kernel_values.specs.declared.state.CoreState.{CoreState}
use Rattle.kernel_values.specs.declared.state.TableEntry.{TableEntry}
use Rattle.kernel_types.specs.Objects.{end_of}
use Rattle.kernel_types.specs.Sweep.{has_marked_peer}
use Rattle.kernel_types.specs.Reach.{is_in}
use Rattle.kernel_types.specs.Reports.{is_after, in_turn, last_of, has_events}
use Rattle.kernel_types.specs.Tables.{table_of, entry_at}
use Rattle.kernel_types.specs.Messages.{is_opened_as, is_unconnected, part_limit, entry_object, send_parts}
use Rattle.kernel_types.specs.Events.{is_disconnected}
use Rattle.kernel_values.specs.declared.errno.Errno.TheVariants as errno
use Rattle.kernel_values.specs.declared.state.ChannelEnd.{ChannelEnd}
use Rattle.kernel_types.specs.Outcome.{Outcome, refuses}
use Rattle.kernel_types.specs.Sets.{has_member}
use Rattle.kernel_values.specs.declared.state.Message.{Message}
use Rattle.kernel_types.specs.Names.{Name, names_of}
use Rattle.kernel_types.specs.Opening.{opening_threads}
use Rattle.kernel_values.specs.declared.scene.App.{App}
use Rattle.kernel_values.specs.declared.state.Thread.{Thread}
use Rattle.kernel_types.specs.Ports.{server_of, new_server}
use Rattle.kernel_values.specs.declared.state.Port.{Port}

-- whether the peer of a pending server end is marked
unfoldable pub is_served : List ℕ → List Object → ℕ → Bool
is_served marked objects server = has_marked_peer marked (end_of objects server)

-- whether the object is marked
unfoldable pub is_kept : List ℕ → Object → Bool
is_kept marked object = is_in marked object.id

unfoldable pub is_later_entry : Option ℕ → TableEntry → Bool
is_later_entry last entry = is_after last entry

unfoldable pub is_earlier_entry : Option ℕ → TableEntry → Bool
is_earlier_entry last entry = not (is_after last entry)

-- the entry that a `waitany` would report
unfoldable pub entry_in_turn : CoreState → ℕ → Option TableEntry
entry_in_turn c app = find (has_events c.objects) (in_turn (last_of (slice_get c.apps app)) (table_of c app))

-- the number of a client's server end
unfoldable pub server_number : ℕ → List ℕ → ℕ → ℕ
server_number first clients client = server_of first clients client

unfoldable pub server_object : Port → ℕ → List ℕ → ℕ → Object
server_object port first clients client = new_server port first clients client

-- how many entries name this object
unfoldable pub names_on : List Name → Object → ℕ
names_on names object = names_of names object.id

-- the threads of the application at a place of the scene
unfoldable pub place_threads : ℕ × App → List Thread
place_threads p = opening_threads p

-- a message that is not the one open under this id
unfoldable pub is_another : ℕ → Message → Bool
is_another id message = not (is_opened_as id message)

-- the object that a number of a table names
unfoldable pub part_object : List TableEntry → ℕ → ℕ
part_object table handle = entry_object (entry_at table handle)

-- whether the object is a set that has this member
unfoldable pub holds_member : ℕ → Object → Bool
holds_member id object = has_member id object

-- a send whose parts are not looked into
unfoldable pub send_with_parts : CoreState → ℕ → List TableEntry → Option ℕ → List ℕ → List ℕ → Outcome
send_with_parts c id table peer bytes parts = send_parts c id table peer bytes parts

-- `send` from an end, as far as its parts
abbrev pub send_by_end : CoreState → ℕ → List TableEntry → List ℕ → List ℕ → Option ChannelEnd → Outcome
send_by_end c id table bytes parts None = refuses errno.InvalidArgs c
send_by_end c id table bytes parts (Some end) =
    (if nat_lt part_limit (length parts) then refuses errno.InvalidArgs c
    else if is_unconnected end.state then refuses errno.NotReady c
    else if is_disconnected end.state then refuses errno.ChannelClosed c
    else if nat_lt end.size (length bytes) then refuses errno.TooBig c
    else send_with_parts c id table end.peer bytes parts)
