-- One step of the device: a frame that is due goes out, or the next frame of queue 1 is taken.
use Rattle.std.specs.Prelude.{ℕ, Bool, true, false, List, [], ◌∷◌, ◌++◌, ◌==◌, ◌&&◌, not, nat_lt, nat_le, length, map, drop, Option, Some, None, Result, Ok, Err, slice_get, if◌then◌else◌}
use Rattle.std.specs.List.{filter, filter_map, find, fold, insert, list_any, position_or_len, range_with_len}
use Rattle.std.specs.Option.{option_map, unwrap_or}
use Rattle.kernel_values.specs.declared.errno.Errno.{Errno}
use Rattle.kernel_values.specs.declared.errno.Errno.TheVariants as errno
use Rattle.kernel_values.specs.declared.entry.Seqs.{Seqs}
use Rattle.kernel_values.specs.declared.reply.DeviceReply.{DeviceReply}
use Rattle.kernel_values.specs.declared.reply.DeviceReply.TheVariants as device
use Rattle.kernel_values.specs.declared.reply.IgnoreCause.{IgnoreCause}
use Rattle.kernel_values.specs.declared.reply.IgnoreCause.TheVariants as ignored
use Rattle.kernel_values.specs.declared.reply.BreakCause.TheVariants as broken
use Rattle.kernel_values.specs.declared.state.CoreState.{CoreState}
use Rattle.kernel_types.specs.Events.{is_disconnected}
use Rattle.kernel_types.specs.Outcome.{no_seqs}
use Rattle.virtqueue.specs.declared.chain.Chain.{Chain}
use Rattle.virtqueue.specs.declared.queue.Queue.{Queue}
use Rattle.virtqueue.specs.declared.queue.RingFault.{RingFault}
use Rattle.virtqueue.specs.declared.queue.RingFault.TheVariants.{IndexJump, HeadOutOfRange, NextOutOfRange, TooLong, RangeOutside, WrongDirection}
use Rattle.virtqueue.specs.Layout.{next_index, used_pushed}
use Rattle.virtqueue.specs.Bytes.{room, bytes_at, stored}
use Rattle.virtqueue.specs.Chains.{chain}
use Rattle.tipc_proto.specs.declared.frames.Frame.{Frame}
use Rattle.tipc_proto.specs.declared.faults.FrameFault.{FrameFault}
use Rattle.tipc_proto.specs.declared.faults.FrameFault.TheVariants.{Short, Length, UnknownType, BodyLength, Name}
use Rattle.tipc_proto.specs.declared.controls.Control.{Control}
use Rattle.tipc_proto.specs.declared.controls.Control.TheVariants.{ConnReq, DiscReq}
use Rattle.tipc_proto.specs.Frames.{frame_in}
use Rattle.tipc_proto.specs.Controls.{control_in}
use Rattle.kernel_values.specs.declared.world.BridgeEntry.{BridgeEntry}
use Rattle.kernel_values.specs.declared.world.Refusal.{Refusal}
use Rattle.kernel_values.specs.declared.world.Device.{Device}
use Rattle.kernel_types.specs.declared.bridge.EndView.{EndView}
use Rattle.kernel_values.specs.declared.world.ClientState.{ClientState}
use Rattle.kernel_values.specs.declared.world.World.{World}
use Rattle.kernel_values.specs.declared.state.State.{State}
use Rattle.kernel_types.specs.Bridge.{Change, only_core, ns_connect, ns_view, ns_peek, ns_push, ns_take, ns_drop}
use Rattle.kernel_types.specs.Errors.{number_of}
use Rattle.kernel_types.specs.Sending.{control_address, frame, online_frame, answer_frame, leave_frame}

-- What is due.

pub data Due : Type 0 where
  -- GO_ONLINE
  going_online : Due
  -- the oldest refusal
  refusing : Refusal → Due
  -- the answer to a request whose end was accepted
  answering : BridgeEntry → EndView → Due
  -- the answer to a request whose end was not accepted, and never will be
  denying : BridgeEntry → Due
  -- the oldest message of an answered entry's end
  sending : BridgeEntry → List ℕ → Due
  -- the end of an answered entry whose end is Disconnected and has no message left
  leaving : BridgeEntry → Due

abbrev pub unanswered_due : BridgeEntry → EndView → Option Due
unanswered_due entry view =
    (if view.accepted then Some (answering entry view)
    else if is_disconnected view.state then Some (denying entry)
    else None)

abbrev pub answered_due : BridgeEntry → EndView → Option (List ℕ) → Option Due
answered_due entry view (Some bytes) = Some (sending entry bytes)
answered_due entry view None = (if is_disconnected view.state then Some (leaving entry) else None)

abbrev pub entry_due : CoreState → BridgeEntry → Option Due
entry_due c entry =
    (if entry.answered then answered_due entry (ns_view c entry.end) (ns_peek c entry.end)
    else unanswered_due entry (ns_view c entry.end))

-- the oldest refusal, or else the first of the entries, by rising address, that has something due
abbrev pub queued_due : CoreState → List BridgeEntry → List Refusal → Option Due
queued_due c entries (refusal ∷ refusals) = Some (refusing refusal)
queued_due c entries [] = slice_get (filter_map (entry_due c) entries) 0

unfoldable pub due_of : CoreState → Device → Option Due
due_of c d = (if d.online then queued_due c d.entries d.refusals else Some going_online)

-- its frame
abbrev pub due_frame : Due → List ℕ
due_frame going_online = online_frame
due_frame (refusing refusal) = answer_frame refusal.target refusal.status 0 0 0
due_frame (answering entry view) = answer_frame entry.normal 0 entry.secure view.size view.slots
due_frame (denying entry) = answer_frame entry.normal (number_of errno.ChannelClosed) 0 0 0
due_frame (sending entry bytes) = frame entry.secure entry.normal bytes
due_frame (leaving entry) = leave_frame control_address entry.normal

abbrev pub due_reply : Due → DeviceReply
due_reply going_online = device.SentOnline
due_reply (refusing refusal) = device.SentRsp refusal.target refusal.status 0 0 0
due_reply (answering entry view) = device.SentRsp entry.normal 0 entry.secure view.size view.slots
due_reply (denying entry) = device.SentRsp entry.normal (number_of errno.ChannelClosed) 0 0 0
due_reply (sending entry bytes) = device.SentMessage entry.secure entry.normal (length bytes)
due_reply (leaving entry) = device.SentDisc entry.normal

-- what the step does with the core: the message is opened and retired, and the end of an entry that goes is dropped
abbrev pub due_change : Due → CoreState → Change
due_change (denying entry) c = only_core (ns_drop false entry.end c)
due_change (sending entry bytes) c = ns_take c entry.end
due_change (leaving entry) c = only_core (ns_drop false entry.end c)
due_change other c = only_core c

-- Entries, which stand in rising order of their secure addresses.

abbrev pub without_entry : BridgeEntry → List BridgeEntry → List BridgeEntry
without_entry entry entries = filter (λ other. not (other.secure == entry.secure)) entries

abbrev pub answered_entry : ℕ → BridgeEntry → BridgeEntry
answered_entry secure entry = (if entry.secure == secure then record entry { answered = true } else entry)

abbrev pub due_device : Due → Device → Device
due_device going_online d = record d { online = true }
due_device (refusing refusal) d = record d { refusals = drop 1 d.refusals }
due_device (answering entry view) d = record d { entries = map (answered_entry entry.secure) d.entries }
due_device (denying entry) d = record d { entries = without_entry entry d.entries }
due_device (sending entry bytes) d = d
due_device (leaving entry) d = record d { entries = without_entry entry d.entries }

-- What one step comes to: its reply, the messages that it sent, opened and retired, the state after it, and the frame
-- that it gave to the normal world or took from there.
pub record DeviceStep : Type 0 where
  pub reply : DeviceReply
  pub seqs : Seqs
  pub state : State
  pub gave : Option (List ℕ)
  pub took : Option (List ℕ)

-- A broken device: its entries and refusals go, and each peer gets the error mark.

abbrev pub broken_device : Device → Device
broken_device d = record d { broken = true; entries = []; refusals = [] }

abbrev pub entry_dropped : CoreState → BridgeEntry → CoreState
entry_dropped c entry = ns_drop true entry.end c

abbrev pub broke : State → DeviceReply → DeviceStep
broke s reply = record {
  reply = reply;
  seqs = no_seqs;
  state = record { core = fold entry_dropped s.core s.world.device.entries; world = record s.world { device = broken_device s.world.device } };
  gave = None;
  took = None;
}

abbrev pub ring_broke : ℕ → RingFault → DeviceReply
ring_broke queue (IndexJump idx) = device.Broke queue broken.IndexJump idx
ring_broke queue (HeadOutOfRange head) = device.Broke queue broken.HeadOutOfRange head
ring_broke queue (NextOutOfRange place) = device.Broke queue broken.NextOutOfRange place
ring_broke queue (TooLong place) = device.Broke queue broken.TooLong place
ring_broke queue (RangeOutside place) = device.Broke queue broken.RangeOutside place
ring_broke queue (WrongDirection place) = device.Broke queue broken.WrongDirection place

-- a chain was used: both of the device's indexes go on
abbrev pub queue_after : Queue → Queue
queue_after q = record q { position = next_index q.position; used = next_index q.used }

-- The first chain of queue 0 takes the frame that is due, and then the used ring takes the chain's head and the frame's length.

abbrev pub sent_world : Due → Chain → World → World
sent_world due chain w = record w {
  memory = used_pushed (stored chain.parts (due_frame due) w.memory) w.device.to_normal chain.head (length (due_frame due));
  device = record (due_device due w.device) { to_normal = queue_after w.device.to_normal };
}

abbrev pub sent_state : Due → Chain → Change → World → State
sent_state due chain change w = record { core = change.core; world = sent_world due chain w }

abbrev pub sent_by_device : State → Due → Chain → DeviceStep
sent_by_device s due chain = record {
  reply = due_reply due;
  seqs = (due_change due s.core).seqs;
  state = sent_state due chain (due_change due s.core) s.world;
  gave = Some (due_frame due);
  took = None;
}

-- The next frame of queue 1. What its taking comes to is nothing where it is held: the frame then stays where it is.

pub record Taken : Type 0 where
  pub reply : DeviceReply
  pub change : Change
  pub device : Device

abbrev pub ignores : CoreState → Device → IgnoreCause → Taken
ignores c d cause = record { reply = device.Ignored cause; change = only_core c; device = d }

abbrev pub fault_cause : FrameFault → IgnoreCause
fault_cause Short = ignored.Short
fault_cause Length = ignored.Length
fault_cause UnknownType = ignored.UnknownType
fault_cause BodyLength = ignored.BodyLength
fault_cause (Name place) = ignored.Name

-- the entry of these two addresses
abbrev pub is_entry_between : ℕ → ℕ → BridgeEntry → Bool
is_entry_between secure normal entry = entry.secure == secure && entry.normal == normal

abbrev pub entry_between : ℕ → ℕ → List BridgeEntry → Option BridgeEntry
entry_between secure normal entries = find (is_entry_between secure normal) entries

-- A request for a connection. It is held where 64 refusals are queued. Else an entry is made, or a refusal is queued: the
-- address has an entry, there are 64 entries, or the connect is refused.

unfoldable pub entry_limit : ℕ
entry_limit = 64

unfoldable pub refusal_limit : ℕ
refusal_limit = 64

abbrev pub first_secure : ℕ
first_secure = 1000

abbrev pub has_secure : List BridgeEntry → ℕ → Bool
has_secure entries secure = list_any (λ entry. entry.secure == secure) entries

-- 1,000 and the least free place
unfoldable pub free_secure : List BridgeEntry → ℕ
free_secure entries = unwrap_or (find (λ secure. not (has_secure entries secure)) (range_with_len first_secure entry_limit)) first_secure

abbrev pub new_entry : ℕ → ℕ → ℕ → BridgeEntry
new_entry secure normal end = record { secure = secure; normal = normal; end = end; answered = false }

abbrev pub with_entry : BridgeEntry → List BridgeEntry → List BridgeEntry
with_entry entry entries = insert entries (position_or_len (λ other. nat_lt entry.secure other.secure) entries) entry

abbrev pub entry_made : ℕ → ℕ → Device → Device
entry_made normal end d = record d { entries = with_entry (new_entry (free_secure d.entries) normal end) d.entries }

abbrev pub refused : ℕ → Errno → Device → Device
refused src errno d = record d { refusals = d.refusals ++ (record { target = src; status = number_of errno }) ∷ [] }

abbrev pub request_refused : CoreState → Device → ℕ → List ℕ → Errno → Taken
request_refused c d src path errno = record { reply = device.TookReq src path; change = only_core c; device = refused src errno d }

abbrev pub request_connected : CoreState → Device → ℕ → List ℕ → Result CoreState Errno → Taken
request_connected c d src path (Err errno) = request_refused c d src path errno
request_connected c d src path (Ok made) = record { reply = device.TookReq src path; change = only_core made; device = entry_made src c.next d }

abbrev pub request_taken : CoreState → Device → ℕ → List ℕ → Taken
request_taken c d src path =
    (if list_any (λ entry. entry.normal == src) d.entries then request_refused c d src path errno.AlreadyExists
    else if nat_le entry_limit (length d.entries) then request_refused c d src path errno.NoResources
    else request_connected c d src path (ns_connect c path))

abbrev pub take_request : CoreState → Device → ℕ → List ℕ → Option Taken
take_request c d src path = (if nat_le refusal_limit (length d.refusals) then None else Some (request_taken c d src path))

-- the end of a connection: the entry goes
abbrev pub leave_taken : CoreState → Device → ℕ → Option BridgeEntry → Taken
leave_taken c d src None = ignores c d ignored.NoEntry
leave_taken c d src (Some entry) = record {
  reply = device.TookDisc src entry.secure;
  change = only_core (ns_drop false entry.end c);
  device = record d { entries = without_entry entry d.entries };
}

abbrev pub take_control : CoreState → Device → ℕ → Result Control FrameFault → Option Taken
take_control c d src (Err fault) = Some (ignores c d (fault_cause fault))
take_control c d src (Ok (ConnReq path)) = take_request c d src path
take_control c d src (Ok (DiscReq target)) = Some (leave_taken c d src (entry_between target src d.entries))
take_control c d src (Ok other) = Some (ignores c d ignored.NotServed)

-- Bytes for a connection go to the peer of its end. They are held where the peer has no free slot.

abbrev pub bytes_taken : CoreState → Device → Frame → List ℕ → BridgeEntry → Taken
bytes_taken c d f payload entry = record {
  reply = device.TookMessage f.src f.dst (length payload);
  change = ns_push c entry.end payload;
  device = d;
}

abbrev pub take_viewed : CoreState → Device → Frame → List ℕ → BridgeEntry → EndView → Option Taken
take_viewed c d f payload entry view =
    (if is_disconnected view.state then Some (ignores c d ignored.PeerGone)
    else if nat_lt view.size (length payload) then Some (ignores c d ignored.TooBig)
    else if view.peer_full then None
    else Some (bytes_taken c d f payload entry))

abbrev pub take_bytes : CoreState → Device → Frame → List ℕ → Option BridgeEntry → Option Taken
take_bytes c d f payload None = Some (ignores c d ignored.NoEntry)
take_bytes c d f payload (Some entry) =
    (if entry.answered then take_viewed c d f payload entry (ns_view c entry.end) else Some (ignores c d ignored.NotAnswered))

abbrev pub take_parsed : CoreState → Device → List ℕ → Result Frame FrameFault → Option Taken
take_parsed c d payload (Err fault) = Some (ignores c d (fault_cause fault))
take_parsed c d payload (Ok f) =
    (if f.dst == control_address then take_control c d f.src (control_in payload)
    else take_bytes c d f payload (entry_between f.dst f.src d.entries))

-- what the taking of a frame comes to, or nothing where it is held
unfoldable pub take_frame : CoreState → Device → List ℕ → Option Taken
take_frame c d bytes = take_parsed c d (drop 16 bytes) (frame_in bytes)

-- the chain goes back, with no bytes written
abbrev pub taken_world : Chain → Device → World → World
taken_world chain d w = record w {
  memory = used_pushed w.memory w.device.from_normal chain.head 0;
  device = record d { from_normal = queue_after w.device.from_normal };
}

abbrev pub taken_by_device : State → Chain → List ℕ → Taken → DeviceStep
taken_by_device s chain bytes taken = record {
  reply = taken.reply;
  seqs = taken.change.seqs;
  state = record { core = taken.change.core; world = taken_world chain taken.device s.world };
  gave = None;
  took = Some bytes;
}

abbrev pub take_chain : State → Chain → List ℕ → Option DeviceStep
take_chain s chain bytes = option_map (taken_by_device s chain bytes) (take_frame s.core s.world.device bytes)

abbrev pub take_next : State → Result (Option Chain) RingFault → Option DeviceStep
take_next s (Err fault) = Some (broke s (ring_broke 1 fault))
take_next s (Ok None) = None
take_next s (Ok (Some chain)) = take_chain s chain (bytes_at chain.parts s.world.memory)

unfoldable pub take_step : State → Option DeviceStep
take_step s = take_next s (chain s.world.memory s.world.device.from_normal)

abbrev pub send_due : State → Due → Result (Option Chain) RingFault → Option DeviceStep
send_due s due (Err fault) = Some (broke s (ring_broke 0 fault))
send_due s due (Ok None) = take_step s
send_due s due (Ok (Some chain)) =
    (if nat_lt (room chain.parts) (length (due_frame due)) then Some (broke s (device.Broke 0 broken.SmallBuffer chain.head))
    else Some (sent_by_device s due chain))

abbrev pub step_by_due : State → Option Due → Option DeviceStep
step_by_due s None = take_step s
step_by_due s (Some due) = send_due s due (chain s.world.memory s.world.device.to_normal)

-- the device is there where there is a client
abbrev pub has_device : List ClientState → Bool
has_device [] = false
has_device (client ∷ clients) = true

-- one step, or nothing where the device has no work; a broken device never has any
unfoldable pub device_step : State → Option DeviceStep
device_step s = (if has_device s.world.clients && not s.world.device.broken then step_by_due s (due_of s.core s.world.device) else None)
