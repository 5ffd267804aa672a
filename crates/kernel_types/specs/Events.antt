-- The events of an object, recomputed from the state. Their bits are those of the flag type `Events`.
use Rattle.std.specs.Prelude.{ℕ, Bool, true, false, zero, suc, List, [], ◌∷◌, ◌+◌, ◌==◌, not, Option, Some, None, bit_and}
use Rattle.std.specs.List.{list_any}
use Rattle.kernel_values.specs.declared.state.Object.{Object}
use Rattle.kernel_values.specs.declared.state.Body.{Body}
use Rattle.kernel_values.specs.declared.state.Body.TheVariants as body
use Rattle.kernel_values.specs.declared.state.ChannelEnd.{ChannelEnd}
use Rattle.kernel_values.specs.declared.state.Message.{Message}
use Rattle.kernel_values.specs.declared.state.Member.{Member}
use Rattle.kernel_values.specs.declared.state.EndState.{EndState}
use Rattle.kernel_values.specs.declared.state.EndState.TheVariants as end_state
use Rattle.kernel_types.specs.Objects.{object_of}

abbrev pub ready_event : ℕ
ready_event = 1

abbrev pub error_event : ℕ
error_event = 2

abbrev pub hup_event : ℕ
hup_event = 4

abbrev pub msg_event : ℕ
msg_event = 8

abbrev pub send_unblocked_event : ℕ
send_unblocked_event = 16

-- an event where the mark stands, else none
abbrev pub where_marked : Bool → ℕ → ℕ
where_marked true event = event
where_marked false event = 0

abbrev pub is_disconnected : EndState → Bool
is_disconnected end_state.Disconnected = true
is_disconnected _ = false

abbrev pub is_unopened : Option ℕ → Bool
is_unopened None = true
is_unopened (Some id) = false

abbrev pub is_filled : Message → Bool
is_filled message = is_unopened message.opened

abbrev pub has_filled : List Message → Bool
has_filled messages = list_any is_filled messages

-- READY and ERROR by their marks, HUP where it is Disconnected, MSG where a message is filled, SEND_UNBLOCKED by its mark
abbrev pub end_events : ChannelEnd → ℕ
end_events end = where_marked end.ready ready_event + where_marked end.error error_event + where_marked (is_disconnected end.state) hup_event
    + where_marked (has_filled end.messages) msg_event + where_marked end.unblocked send_unblocked_event

-- READY where a connection is pending
abbrev pub pending_events : List ℕ → ℕ
pending_events [] = 0
pending_events (server ∷ servers) = ready_event

-- the events of a member's mask that its object has
abbrev pub masked_events : (ℕ → ℕ) → Member → ℕ
masked_events events member = bit_and (events member.object) member.mask.0

abbrev pub is_ready_member : (ℕ → ℕ) → Member → Bool
is_ready_member events member = not (masked_events events member == 0)

-- a set has READY where some member has an event of its mask; a memory reference has no events
abbrev pub body_events : (ℕ → ℕ) → Body → ℕ
body_events events (body.Port port) = pending_events port.pending
body_events events (body.End end) = end_events end
body_events events (body.Set set) = where_marked (list_any (is_ready_member events) set.members) ready_event
body_events events (body.Memory memory) = 0

abbrev pub object_events : (ℕ → ℕ) → Option Object → ℕ
object_events events None = 0
object_events events (Some object) = body_events events object.body

-- the events of an object, seen through fewer than this many sets, one in another
abbrev pub events_within : ℕ → List Object → ℕ → ℕ
events_within zero objects id = 0
events_within (suc depth) objects id = object_events (events_within depth objects) (object_of objects id)

-- a chain of sets, each a member of the one before, has at most 8
unfoldable pub chain_limit : ℕ
chain_limit = 8

-- the events of an object: 8 sets in one another, and what the innermost has as members
unfoldable pub events_of : List Object → ℕ → ℕ
events_of objects id = events_within (chain_limit + 1) objects id

abbrev pub has_event : ℕ → ℕ → Bool
has_event events event = not (bit_and events event == 0)
