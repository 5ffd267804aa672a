-- What the bridge's calls leave of the core: a message that goes or comes leaves all that changes of objects leave, and a drop all of it
-- but the ends that the bridge names.
use Rattle.std.proofs.Common.{◌∙◌, ℕ, Bool, true, false, cond, List, [], ◌∷◌, length, Option, Some, None, refl}
use Rattle.std.specs.List.{find, fold}
use Rattle.kernel_values.specs.declared.errno.Errno.TheVariants as errno
use Rattle.kernel_values.specs.declared.reply.Reply.TheVariants as reply
use Rattle.kernel_values.specs.declared.state.ChannelEnd.{ChannelEnd}
use Rattle.kernel_values.specs.declared.state.CoreState.{CoreState}
use Rattle.kernel_values.specs.declared.state.Message.{Message}
use Rattle.kernel_values.specs.declared.world.BridgeEntry.{BridgeEntry}
use Rattle.kernel_types.specs.Bridge.{marked_if, ns_drop, ns_push, ns_take, peer_marked, push_from, take_from, unbridged}
use Rattle.kernel_types.specs.Connects.{peer_of}
use Rattle.kernel_types.specs.Device.{entry_dropped}
use Rattle.kernel_types.specs.Events.{is_disconnected, is_filled}
use Rattle.kernel_types.specs.Messages.{blocked_end, deliver, free_id, get_message, is_full_end, is_opened_as, peer_end, peer_unblocked, put_from, put_message, with_message, without_opened}
use Rattle.kernel_types.specs.Objects.{end_changed, end_of}
use Rattle.kernel_types.specs.Outcome.{Outcome, gives_with, refuses, sent_seq}
use Rattle.kernel_types.specs.Sweep.{sweep}
use Rattle.step_laws.proofs.Leaving.{Calm, Untouched, sweep_leaves, untouched}

then_leaves : (c b d : CoreState) → Untouched c b → Untouched b d → Untouched c d
then_leaves c b d one other = record { bridged = other.bridged ∙ one.bridged; threads = other.threads ∙ one.threads; clock = other.clock ∙ one.clock; starts = other.starts ∙ one.starts }

and_swept : (c d : CoreState) → Untouched c d → Untouched c (sweep d)
and_swept c d k = then_leaves c d (sweep d) k (sweep_leaves d)

leaves_if : (c : CoreState) (b : Bool) (one other : Outcome) → Untouched c one.core → Untouched c other.core → Untouched c (cond b one other).core
leaves_if c true one other k m = k
leaves_if c false one other k m = m

-- A message that goes.

deliver_leaves : (c : CoreState) (id : ℕ) (peer : Option ℕ) (to : Option ChannelEnd) (bytes : List ℕ) → Untouched c (deliver c id peer to bytes []).core
deliver_leaves c id None None bytes = untouched c
deliver_leaves c id None (Some end) bytes = untouched c
deliver_leaves c id (Some peer) None bytes = untouched c
deliver_leaves c id (Some peer) (Some end) bytes =
    leaves_if c (is_full_end end) (refuses errno.NotEnoughBuffer (end_changed blocked_end id c))
    (gives_with (reply.Count (length bytes)) (sent_seq peer end.sent) (end_changed (with_message bytes []) peer c))
    (record { bridged = refl; threads = refl; clock = refl; starts = refl }) (record { bridged = refl; threads = refl; clock = refl; starts = refl })

push_from_leaves : (c : CoreState) (end : ℕ) (bytes : List ℕ) (from : Option ChannelEnd) → Untouched c (push_from c end bytes from).core
push_from_leaves c end bytes None = untouched c
push_from_leaves c end bytes (Some from) =
    and_swept c (deliver c end from.peer (peer_end c.objects from.peer) bytes []).core (deliver_leaves c end from.peer (peer_end c.objects from.peer) bytes)

pub push_leaves : (c : CoreState) (end : ℕ) (bytes : List ℕ) → Untouched c (ns_push c end bytes).core
unfolding ns_push
push_leaves c end bytes = push_from_leaves c end bytes (end_of c.objects end)

-- One that comes.

get_message_leaves : (c : CoreState) (id : ℕ) (end : ChannelEnd) (message : Option Message) → Untouched c (get_message c id end message).core
get_message_leaves c id end None = leaves_if c (is_disconnected end.state) (refuses errno.ChannelClosed c) (refuses errno.NoMsg c) (untouched c) (untouched c)
get_message_leaves c id end (Some message) = record { bridged = refl; threads = refl; clock = refl; starts = refl }

unblocked_leaves : (c : CoreState) (peer : Option ℕ) → Untouched c (peer_unblocked peer c)
unblocked_leaves c None = untouched c
unblocked_leaves c (Some peer) = record { bridged = refl; threads = refl; clock = refl; starts = refl }

put_message_leaves : (c : CoreState) (id : ℕ) (end : ChannelEnd) (number : ℕ) (message : Option Message) → Untouched c (put_message c id end number message).core
put_message_leaves c id end number None = untouched c
put_message_leaves c id end number (Some message) =
    let less : CoreState = end_changed (without_opened number) id c in
    then_leaves c less (peer_unblocked end.peer less) (record { bridged = refl; threads = refl; clock = refl; starts = refl }) (unblocked_leaves less end.peer)

put_from_leaves : (c : CoreState) (id number : ℕ) (end : Option ChannelEnd) → Untouched c (put_from c id number end).core
put_from_leaves c id number None = untouched c
put_from_leaves c id number (Some end) = put_message_leaves c id end number (find (is_opened_as number) end.messages)

take_from_leaves : (c : CoreState) (id : ℕ) (end : Option ChannelEnd) → Untouched c (take_from c id end).core
take_from_leaves c id None = untouched c
take_from_leaves c id (Some end) =
    let number : ℕ = free_id end.messages in
    let there : CoreState = (get_message c id end (find is_filled end.messages)).core in
    let last : Option ChannelEnd = end_of there.objects id in
    and_swept c (put_from there id number last).core
    (then_leaves c there (put_from there id number last).core (get_message_leaves c id end (find is_filled end.messages)) (put_from_leaves there id number last))

pub take_leaves : (c : CoreState) (end : ℕ) → Untouched c (ns_take c end).core
unfolding ns_take
take_leaves c end = take_from_leaves c end (end_of c.objects end)

-- A drop.

peer_marked_leaves : (c : CoreState) (peer : Option ℕ) → Untouched c (peer_marked peer c)
peer_marked_leaves c None = untouched c
peer_marked_leaves c (Some peer) = record { bridged = refl; threads = refl; clock = refl; starts = refl }

pub marked_leaves : (c : CoreState) (broken : Bool) (end : ℕ) → Untouched c (marked_if broken end c)
marked_leaves c true end = peer_marked_leaves c (peer_of (end_of c.objects end))
marked_leaves c false end = untouched c

pub drop_calm : (c : CoreState) (broken : Bool) (end : ℕ) → Calm c (ns_drop broken end c)
unfolding ns_drop
drop_calm c broken end =
    let less : CoreState = unbridged end (marked_if broken end c) in
    let swept : Untouched less (sweep less) = sweep_leaves less in
    let marked : Untouched c (marked_if broken end c) = marked_leaves c broken end in
    record { threads = swept.threads ∙ marked.threads; clock = swept.clock ∙ marked.clock; starts = swept.starts ∙ marked.starts }

pub drops_calm : (c : CoreState) (entries : List BridgeEntry) → Calm c (fold entry_dropped c entries)
drops_calm c [] = record { threads = refl; clock = refl; starts = refl }
drops_calm c (entry ∷ entries) =
    let first : Calm c (ns_drop true entry.end c) = drop_calm c true entry.end in
    let rest : Calm (ns_drop true entry.end c) (fold entry_dropped c (entry ∷ entries)) = drops_calm (ns_drop true entry.end c) entries in
    record { threads = rest.threads ∙ first.threads; clock = rest.clock ∙ first.clock; starts = rest.starts ∙ first.starts }
