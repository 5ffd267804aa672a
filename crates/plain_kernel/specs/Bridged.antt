-- What the calls of the bridge tell.
use Rattle.std.specs.Prelude.{◌≡◌, ℕ, Bool, ◌==◌, not, List, [], Option, Some, None, Result, Ok, Err}
use Rattle.std.specs.List.{find}
use Rattle.std.specs.Option.{option_map}
use Rattle.kernel_values.specs.declared.entry.EndSeq.{EndSeq}
use Rattle.kernel_values.specs.declared.errno.Errno.{Errno}
use Rattle.kernel_values.specs.declared.state.CoreState.{CoreState}
use Rattle.kernel_values.specs.declared.state.ChannelEnd.{ChannelEnd}
use Rattle.kernel_values.specs.declared.state.Message.{Message}
use Rattle.kernel_values.specs.declared.state.Object.{Object}
use Rattle.kernel_types.specs.Bridge.{Change, ns_connect_by}
use Rattle.kernel_types.specs.Connects.{Way, peer_of}
use Rattle.kernel_types.specs.Events.{is_filled}
use Rattle.kernel_types.specs.Messages.{free_id, peer_unblocked, with_message, with_opened, without_opened}
use Rattle.kernel_types.specs.Objects.{end_changed, end_of}

-- a connect that goes through, or is refused
abbrev pub connected_if : Option Errno → CoreState → Result CoreState Errno
connected_if None c = Ok c
connected_if (Some errno) c = Err errno

-- a connect by a way that is not looked into
unfoldable pub ns_connect_way : Way → CoreState → List ℕ → Result CoreState Errno
ns_connect_way way c path = ns_connect_by way c path

-- one message was sent
abbrev pub pushed : EndSeq → CoreState → Change
pushed sent c = record { seqs = record { sent = Some sent; opened = None; retired = None }; core = c }

-- one message was opened and retired
abbrev pub taken : EndSeq → CoreState → Change
taken seq c = record { seqs = record { sent = None; opened = Some seq; retired = Some seq }; core = c }

-- whether a number is not the end's
unfoldable pub is_other : ℕ → ℕ → Bool
is_other end other = not (other == end)

abbrev pub filled_in : Option ChannelEnd → Option Message
filled_in None = None
filled_in (Some end) = find is_filled end.messages

-- the oldest filled message of an end
abbrev pub filled_at : CoreState → ℕ → Option Message
filled_at c id = filled_in (end_of c.objects id)

abbrev pub id_in : Option ChannelEnd → ℕ
id_in None = 0
id_in (Some end) = free_id end.messages

-- the least id that no open message of the end has
abbrev pub id_at : CoreState → ℕ → ℕ
id_at c id = id_in (end_of c.objects id)

-- the end's peer, which is there, and the number of the next message that is sent to it
abbrev pub IsSentTo : EndSeq → List Object → Option ℕ → Type 0
IsSentTo sent objects None = ⊥
IsSentTo sent objects (Some other) = (other ≡ sent.end.0) × (option_map (λ end. end.sent) (end_of objects sent.end.0) ≡ Some sent.seq)

unfoldable pub IsNextSent : EndSeq → CoreState → ℕ → Type 0
IsNextSent sent c id = IsSentTo sent c.objects (peer_of (end_of c.objects id))

-- a message without handles goes last into the queue of an end
unfoldable pub sent_to : ℕ → List ℕ → CoreState → CoreState
sent_to peer bytes c = end_changed (with_message bytes []) peer c

-- the oldest filled message of an end was opened and retired
unfoldable pub first_retired : ℕ → CoreState → CoreState
first_retired id c = peer_unblocked (peer_of (end_of c.objects id)) (end_changed (without_opened (id_at c id)) id (end_changed (with_opened (id_at c id)) id c))
