-- What the bridge asks of the core: connections that clients of the normal world make, and the ends that its entries
-- name. Each is what the system calls do, and is followed by the sweep.
use Rattle.std.specs.Prelude.{ℕ, Bool, true, false, List, [], ◌∷◌, ◌++◌, ◌==◌, not, Option, Some, None, Result, Ok, Err, slice_get, if◌then◌else◌}
use Rattle.std.specs.List.{filter, find, count_by}
use Rattle.kernel_values.specs.declared.errno.Errno.{Errno}
use Rattle.kernel_values.specs.declared.errno.Errno.TheVariants as errno
use Rattle.kernel_values.specs.declared.entry.Seqs.{Seqs}
use Rattle.kernel_values.specs.declared.state.ChannelEnd.{ChannelEnd}
use Rattle.kernel_values.specs.declared.state.Message.{Message}
use Rattle.kernel_values.specs.declared.state.Connector.TheVariants as connector
use Rattle.kernel_values.specs.declared.state.EndState.TheVariants as end_state
use Rattle.kernel_values.specs.declared.state.CoreState.{CoreState}
use Rattle.kernel_types.specs.Objects.{end_of, end_changed}
use Rattle.kernel_types.specs.Events.{is_filled}
use Rattle.kernel_types.specs.Ports.{admits}
use Rattle.kernel_types.specs.Connects.{Way, to_port, to_start, to_nothing, way_of, pending_pair, waiting_client, started_unless_running, peer_of}
use Rattle.kernel_types.specs.Messages.{peer_end, is_full_end, deliver, get_message, put_from, free_id}
use Rattle.kernel_types.specs.Outcome.{Outcome, no_seqs}
use Rattle.kernel_types.specs.Sweep.{sweep}
use Rattle.kernel_types.specs.declared.bridge.EndView.{EndView}

-- A connect of the normal world, which waits for nothing; the bridge names its end, which gets the number `next`.

abbrev pub bridging : ℕ → CoreState → CoreState
bridging end c = record c { bridged = c.bridged ++ end ∷ [] }

abbrev pub ns_connect_by : Way → CoreState → List ℕ → Result CoreState Errno
ns_connect_by (to_port id port) c path =
    (if not (admits port.flags connector.NormalWorld) then Err errno.AccessDenied
    else Ok (sweep (bridging c.next (pending_pair connector.NormalWorld id port c))))
ns_connect_by (to_start place start) c path =
    (if not (admits start connector.NormalWorld) then Err errno.AccessDenied
    else Ok (sweep (started_unless_running place (slice_get c.apps place) (bridging c.next (waiting_client connector.NormalWorld path c)))))
ns_connect_by to_nothing c path = Err errno.NotFound

unfoldable pub ns_connect : CoreState → List ℕ → Result CoreState Errno
ns_connect c path = ns_connect_by (way_of c path) c path

-- What the bridge sees of an end.

-- a peer that is there and holds as many messages as it has slots
abbrev pub is_full_peer : Option ChannelEnd → Bool
is_full_peer None = false
is_full_peer (Some peer) = is_full_end peer

-- an end that is not there looks like one that nobody accepted and that is Disconnected
abbrev pub absent_view : EndView
absent_view = record { state = end_state.Disconnected; accepted = false; filled = 0; size = 0; slots = 0; peer_full = false }

abbrev pub view_of : CoreState → Option ChannelEnd → EndView
view_of c None = absent_view
view_of c (Some end) = record {
  state = end.state;
  accepted = end.accepted;
  filled = count_by is_filled end.messages;
  size = end.size;
  slots = end.slots;
  peer_full = is_full_peer (peer_end c.objects end.peer);
}

unfoldable pub ns_view : CoreState → ℕ → EndView
ns_view c end = view_of c (end_of c.objects end)

-- the bytes of the oldest filled message

abbrev pub bytes_of : Option Message → Option (List ℕ)
bytes_of None = None
bytes_of (Some message) = Some message.bytes

abbrev pub peek_in : Option ChannelEnd → Option (List ℕ)
peek_in None = None
peek_in (Some end) = bytes_of (find is_filled end.messages)

unfoldable pub ns_peek : CoreState → ℕ → Option (List ℕ)
ns_peek c end = peek_in (end_of c.objects end)

-- What a step leaves of the core, and which messages it sent, opened and retired.

pub record Change : Type 0 where
  pub seqs : Seqs
  pub core : CoreState

-- no message was sent, opened or retired
abbrev pub only_core : CoreState → Change
only_core c = record { seqs = no_seqs; core = c }

-- a message without handles is sent to the end's peer

abbrev pub push_from : CoreState → ℕ → List ℕ → Option ChannelEnd → Change
push_from c end bytes None = only_core c
push_from c end bytes (Some from) =
    let outcome : Outcome = deliver c end from.peer (peer_end c.objects from.peer) bytes [] in
    record { seqs = outcome.seqs; core = sweep outcome.core }

unfoldable pub ns_push : CoreState → ℕ → List ℕ → Change
ns_push c end bytes = push_from c end bytes (end_of c.objects end)

-- the oldest filled message is opened as by `get`, and retired as by `put`; whether the end is Connected does not count

abbrev pub put_after : CoreState → ℕ → ℕ → Outcome → Change
put_after c end id got =
    let done : Outcome = put_from got.core end id (end_of got.core.objects end) in
    record { seqs = record { sent = None; opened = got.seqs.opened; retired = done.seqs.retired }; core = sweep done.core }

abbrev pub take_from : CoreState → ℕ → Option ChannelEnd → Change
take_from c id None = only_core c
take_from c id (Some end) = put_after c id (free_id end.messages) (get_message c id end (find is_filled end.messages))

unfoldable pub ns_take : CoreState → ℕ → Change
ns_take c end = take_from c end (end_of c.objects end)

-- The bridge names the end no more; where it is broken, the peer gets the error mark.

abbrev pub with_error : ChannelEnd → ChannelEnd
with_error end = record end { error = true }

abbrev pub peer_marked : Option ℕ → CoreState → CoreState
peer_marked None c = c
peer_marked (Some peer) c = end_changed with_error peer c

abbrev pub marked_if : Bool → ℕ → CoreState → CoreState
marked_if true end c = peer_marked (peer_of (end_of c.objects end)) c
marked_if false end c = c

abbrev pub unbridged : ℕ → CoreState → CoreState
unbridged end c = record c { bridged = filter (λ other. not (other == end)) c.bridged }

unfoldable pub ns_drop : Bool → ℕ → CoreState → CoreState
ns_drop broken end c = sweep (unbridged end (marked_if broken end c))
