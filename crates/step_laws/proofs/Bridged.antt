-- A step of the device: the core changes only by a call of the bridge, the clients and the driver stay, and the answer lists at most a path.
use Rattle.std.proofs.Common.{◌≡◌, ◌≤◌, ℕ, ◌+◌, ◌==◌, ◌&&◌, Bool, true, false, cond, not, List, length, take, drop, Option, Some, None, refl, arith, tests, length-take}
use Rattle.std.specs.Prelude.{nat_lt, nat_le, Result, Ok, Err}
use Rattle.std.specs.List.{fold, list_any, prefix_len}
use Rattle.std.specs.Option.{option_map}
use Rattle.kernel_values.specs.Words.{is_printable}
use Rattle.kernel_values.specs.declared.errno.Errno.{Errno}
use Rattle.kernel_values.specs.declared.errno.Errno.TheVariants as errno
use Rattle.kernel_values.specs.declared.reply.Answer.TheVariants as answer
use Rattle.kernel_values.specs.declared.reply.DeviceReply.{DeviceReply}
use Rattle.kernel_values.specs.declared.reply.DeviceReply.TheVariants as device
use Rattle.kernel_values.specs.declared.reply.IgnoreCause.{IgnoreCause}
use Rattle.kernel_values.specs.declared.reply.IgnoreCause.TheVariants as ignored
use Rattle.kernel_values.specs.declared.reply.BreakCause.TheVariants as broken
use Rattle.kernel_values.specs.declared.state.CoreState.{CoreState}
use Rattle.kernel_values.specs.declared.state.State.{State}
use Rattle.kernel_values.specs.declared.world.BridgeEntry.{BridgeEntry}
use Rattle.kernel_values.specs.declared.world.Device.{Device}
use Rattle.virtqueue.specs.declared.chain.Chain.{Chain}
use Rattle.virtqueue.specs.declared.queue.RingFault.{RingFault}
use Rattle.virtqueue.specs.declared.queue.RingFault.TheVariants.{IndexJump, HeadOutOfRange, NextOutOfRange, TooLong, RangeOutside, WrongDirection}
use Rattle.virtqueue.specs.Bytes.{room, bytes_at}
use Rattle.virtqueue.specs.Chains.{chain}
use Rattle.tipc_proto.specs.declared.frames.Frame.{Frame}
use Rattle.tipc_proto.specs.declared.faults.FrameFault.{FrameFault}
use Rattle.tipc_proto.specs.declared.faults.FrameFault.TheVariants.{Short, BodyLength, Name}
use Rattle.tipc_proto.specs.declared.controls.Control.{Control}
use Rattle.tipc_proto.specs.declared.controls.Control.TheVariants.{GoOnline, GoOffline, ConnReq, ConnRsp, DiscReq}
use Rattle.tipc_proto.specs.Frames.{frame_in}
use Rattle.tipc_proto.specs.Controls.{four_at, body_length, request, body_in, sized, control_in}
use Rattle.tipc_proto.specs.Names.{is_zero, name_in}
use Rattle.kernel_types.specs.declared.bridge.EndView.{EndView}
use Rattle.kernel_types.specs.Bridge.{Change, only_core, ns_connect, ns_view, ns_push, ns_take, ns_drop}
use Rattle.kernel_types.specs.Events.{is_disconnected}
use Rattle.kernel_types.specs.Sending.{control_address}
use Rattle.kernel_types.specs.Device.{Due, DeviceStep, Taken, due_of, due_frame, due_reply, due_change, entry_dropped, broke, ring_broke, sent_by_device, ignores, fault_cause, entry_between, entry_limit, refusal_limit, request_refused, request_connected, request_taken, take_request, leave_taken, take_control, bytes_taken, take_viewed, take_bytes, take_parsed, take_frame, taken_by_device, take_next, take_step, send_due, step_by_due, has_device, device_step}
use Rattle.kernel_types.specs.Device.Due.{going_online, refusing, answering, denying, sending, leaving}
use Rattle.kernel_types.specs.Limits.{FitsIn, path_room}

-- What holds after each change of the core that a step of the device can make, in the light of the messages that it moved.
pub record OfDevice (c : CoreState) : Type 1 where
  pub holds : Change → Type 0
  -- the core stays
  pub left : holds (only_core c)
  pub connected : (path : List ℕ) (made : CoreState) → ns_connect c path ≡ Ok made → holds (only_core made)
  pub pushed : (end : ℕ) (bytes : List ℕ) → length bytes ≤ (ns_view c end).size → holds (ns_push c end bytes)
  pub taken : (end : ℕ) → holds (ns_take c end)
  pub dropped : (end : ℕ) → holds (only_core (ns_drop false end c))
  -- a broken device drops the ends of its entries one after another
  pub broke : (entries : List BridgeEntry) → holds (only_core (fold entry_dropped c entries))

-- whatever the change is
abbrev pub any_change : (c : CoreState) → OfDevice c
any_change c = record {
  holds = λ change. Unit {0};
  left = tt;
  connected = λ path made is. tt;
  pushed = λ end bytes few. tt;
  taken = λ end. tt;
  dropped = λ end. tt;
  broke = λ entries. tt;
}

abbrev pub ReplyFits : DeviceReply → Type 0
ReplyFits reply = FitsIn path_room (answer.Device reply)

-- A request that is read has a path of at most 63 bytes.

abbrev NameFits : Result (List ℕ) FrameFault → Type 0
NameFits (Ok path) = length path ≤ 63
NameFits (Err fault) = Unit {0}

abbrev ControlFits : Result Control FrameFault → Type 0
ControlFits (Ok (ConnReq path)) = length path ≤ 63
ControlFits other = Unit {0}

name_fits : (field : List ℕ) → NameFits (name_in field)
unfolding name_in
name_fits field =
    let long : ℕ = prefix_len is_printable field in
    let end : ℕ = long + prefix_len is_zero (drop long field) in
    let last : nat_lt 63 long ≡ false → NameFits (cond (nat_lt end (length field)) (Err (Name end)) (Ok (take long field))) =
    λ is. let few : long ≤ 63 = grind (arith, tests) in
    elim (nat_lt end (length field)) as (λ b. NameFits (cond b (Err (Name end)) (Ok (take long field)))) [ true ↦ tt | false ↦ omega (arith, few, length-take long field) ] in
    let P : Bool → Type 0 = λ b. nat_lt 63 long ≡ b → NameFits (cond b (Err (Name 63)) (cond (nat_lt end (length field)) (Err (Name end)) (Ok (take long field)))) in
    let go : (b : Bool) → P b = λ b. elim b as (λ v. P v) [ true ↦ (λ is. tt) | false ↦ last ] in
    elim (long == 0) as (λ b. NameFits (cond b (Err (Name 0)) (cond (nat_lt 63 long) (Err (Name 63)) (cond (nat_lt end (length field)) (Err (Name end)) (Ok (take long field))))))
    [ true ↦ tt | false ↦ go (nat_lt 63 long) refl ]

request_fits : (r : Result (List ℕ) FrameFault) → NameFits r → ControlFits (request r)
request_fits (Ok path) fits = fits
request_fits (Err fault) fits = tt

fits_if : (b : Bool) (one other : Result Control FrameFault) → ControlFits one → ControlFits other → ControlFits (cond b one other)
fits_if b one other f g = elim b as (λ v. ControlFits (cond v one other)) [ true ↦ f | false ↦ g ]

body_fits : (kind : ℕ) (body : List ℕ) → ControlFits (body_in kind body)
unfolding body_in
body_fits kind body =
    let left : Control = DiscReq (four_at 0 body) in
    let answered : Control = ConnRsp (four_at 0 body) (four_at 4 body) (four_at 8 body) (four_at 12 body) (four_at 16 body) in
    fits_if (kind == 1) (Ok GoOnline) _ tt
    (fits_if (kind == 2) (Ok GoOffline) _ tt
    (fits_if (kind == 3) (request (name_in body)) _ (request_fits (name_in body) (name_fits body))
    (fits_if (kind == 4) (Ok answered) (Ok left) tt tt)))

sized_fits : (kind body_len : ℕ) (body : List ℕ) (o : Option ℕ) → ControlFits (sized kind body_len body o)
sized_fits kind body_len body None = tt
sized_fits kind body_len body (Some wanted) =
    fits_if ((body_len == length body) && (body_len == wanted)) (body_in kind body) (Err BodyLength) (body_fits kind body) tt

control_fits : (payload : List ℕ) → ControlFits (control_in payload)
unfolding control_in
control_fits payload =
    fits_if (nat_lt (length payload) 8) (Err Short) _ tt (sized_fits (four_at 0 payload) (four_at 4 payload) (drop 8 payload) (body_length (four_at 0 payload)))

-- What the device says.

due_fits : (due : Due) → ReplyFits (due_reply due)
due_fits going_online = record { bytes = omega arith; handles = omega arith }
due_fits (refusing refusal) = record { bytes = omega arith; handles = omega arith }
due_fits (answering entry view) = record { bytes = omega arith; handles = omega arith }
due_fits (denying entry) = record { bytes = omega arith; handles = omega arith }
due_fits (sending entry bytes) = record { bytes = omega arith; handles = omega arith }
due_fits (leaving entry) = record { bytes = omega arith; handles = omega arith }

ring_fits : (queue : ℕ) (fault : RingFault) → ReplyFits (ring_broke queue fault)
ring_fits queue (IndexJump idx) = record { bytes = omega arith; handles = omega arith }
ring_fits queue (HeadOutOfRange head) = record { bytes = omega arith; handles = omega arith }
ring_fits queue (NextOutOfRange place) = record { bytes = omega arith; handles = omega arith }
ring_fits queue (TooLong place) = record { bytes = omega arith; handles = omega arith }
ring_fits queue (RangeOutside place) = record { bytes = omega arith; handles = omega arith }
ring_fits queue (WrongDirection place) = record { bytes = omega arith; handles = omega arith }

-- the taking of a frame changes the core as a step of the device does
record TakenKeeps (c : CoreState) (K : OfDevice c) (taken : Taken) : Type 0 where
  kept : K.holds taken.change
  fits : ReplyFits taken.reply

-- a step of the device
pub record DeviceKeeps (s : State) (K : OfDevice s.core) (done : DeviceStep) : Type 0 where
  pub kept : K.holds (record { seqs = done.seqs; core = done.state.core })
  pub clients : done.state.world.clients ≡ s.world.clients
  pub driver : done.state.world.driver ≡ s.world.driver
  pub fits : ReplyFits done.reply

abbrev pub DeviceKeepsIf : (s : State) → OfDevice s.core → Option DeviceStep → Type 0
DeviceKeepsIf s K None = Unit {0}
DeviceKeepsIf s K (Some done) = DeviceKeeps s K done

module _ (c : CoreState) (K : OfDevice c) (d : Device) where
  abbrev TakenKeepsIf : Option Taken → Type 0
  TakenKeepsIf None = Unit {0}
  TakenKeepsIf (Some taken) = TakenKeeps c K taken

  ignores_keeps : (cause : IgnoreCause) → TakenKeeps c K (ignores c d cause)
  ignores_keeps cause = record { kept = K.left; fits = record { bytes = omega arith; handles = omega arith } }

  refused_keeps : (src : ℕ) (path : List ℕ) (errno : Errno) → length path ≤ 63 → TakenKeeps c K (request_refused c d src path errno)
  refused_keeps src path errno few = record { kept = K.left; fits = record { bytes = few; handles = omega arith } }

  connected_keeps : (src : ℕ) (path : List ℕ) → length path ≤ 63 → (r : Result CoreState Errno) → ns_connect c path ≡ r → TakenKeeps c K (request_connected c d src path r)
  connected_keeps src path few (Err errno) is = refused_keeps src path errno few
  connected_keeps src path few (Ok made) is = record { kept = K.connected path made is; fits = record { bytes = few; handles = omega arith } }

  request_keeps : (src : ℕ) (path : List ℕ) → length path ≤ 63 → TakenKeeps c K (request_taken c d src path)
  request_keeps src path few =
      let more : Taken = request_connected c d src path (ns_connect c path) in
      let full : TakenKeeps c K (cond (nat_le entry_limit (length d.entries)) (request_refused c d src path errno.NoResources) more) =
      elim (nat_le entry_limit (length d.entries)) as (λ b. TakenKeeps c K (cond b (request_refused c d src path errno.NoResources) more))
      [ true ↦ refused_keeps src path errno.NoResources few | false ↦ connected_keeps src path few (ns_connect c path) refl ] in
      elim (list_any (λ entry. entry.normal == src) d.entries)
      as (λ b. TakenKeeps c K (cond b (request_refused c d src path errno.AlreadyExists) (cond (nat_le entry_limit (length d.entries)) (request_refused c d src path errno.NoResources) more)))
      [ true ↦ refused_keeps src path errno.AlreadyExists few | false ↦ full ]

  take_request_keeps : (src : ℕ) (path : List ℕ) → length path ≤ 63 → TakenKeepsIf (take_request c d src path)
  take_request_keeps src path few =
      elim (nat_le refusal_limit (length d.refusals)) as (λ b. TakenKeepsIf (cond b None (Some (request_taken c d src path)))) [ true ↦ tt | false ↦ request_keeps src path few ]

  leave_keeps : (src : ℕ) (entry : Option BridgeEntry) → TakenKeeps c K (leave_taken c d src entry)
  leave_keeps src None = ignores_keeps ignored.NoEntry
  leave_keeps src (Some entry) = record { kept = K.dropped entry.end; fits = record { bytes = omega arith; handles = omega arith } }

  control_keeps : (src : ℕ) (r : Result Control FrameFault) → ControlFits r → TakenKeepsIf (take_control c d src r)
  control_keeps src (Err fault) fits = ignores_keeps (fault_cause fault)
  control_keeps src (Ok (ConnReq path)) fits = take_request_keeps src path fits
  control_keeps src (Ok (DiscReq target)) fits = leave_keeps src (entry_between target src d.entries)
  control_keeps src (Ok GoOnline) fits = ignores_keeps ignored.NotServed
  control_keeps src (Ok GoOffline) fits = ignores_keeps ignored.NotServed
  control_keeps src (Ok (ConnRsp target status remote size count)) fits = ignores_keeps ignored.NotServed

  bytes_keeps : (f : Frame) (payload : List ℕ) (entry : BridgeEntry) → nat_lt (ns_view c entry.end).size (length payload) ≡ false → TakenKeeps c K (bytes_taken c d f payload entry)
  bytes_keeps f payload entry small =
      let few : length payload ≤ (ns_view c entry.end).size = grind (arith, tests) in
      record { kept = K.pushed entry.end payload few; fits = record { bytes = omega arith; handles = omega arith } }

  viewed_keeps : (f : Frame) (payload : List ℕ) (entry : BridgeEntry) → TakenKeepsIf (take_viewed c d f payload entry (ns_view c entry.end))
  viewed_keeps f payload entry =
      let view : EndView = ns_view c entry.end in
      let held : Option Taken = cond view.peer_full None (Some (bytes_taken c d f payload entry)) in
      let P : Bool → Type 0 = λ b. nat_lt view.size (length payload) ≡ b → TakenKeepsIf (cond b (Some (ignores c d ignored.TooBig)) held) in
      let go : (b : Bool) → P b = λ b. elim b as (λ v. P v) [
        | true ↦ (λ is. ignores_keeps ignored.TooBig)
        | false ↦ (λ is. elim view.peer_full as (λ b. TakenKeepsIf (cond b None (Some (bytes_taken c d f payload entry)))) [ true ↦ tt | false ↦ bytes_keeps f payload entry is ])
      ] in
      elim (is_disconnected view.state) as (λ b. TakenKeepsIf (cond b (Some (ignores c d ignored.PeerGone)) (cond (nat_lt view.size (length payload)) (Some (ignores c d ignored.TooBig)) held)))
      [ true ↦ ignores_keeps ignored.PeerGone | false ↦ go (nat_lt view.size (length payload)) refl ]

  take_bytes_keeps : (f : Frame) (payload : List ℕ) (entry : Option BridgeEntry) → TakenKeepsIf (take_bytes c d f payload entry)
  take_bytes_keeps f payload None = ignores_keeps ignored.NoEntry
  take_bytes_keeps f payload (Some entry) =
      elim entry.answered as (λ b. TakenKeepsIf (cond b (take_viewed c d f payload entry (ns_view c entry.end)) (Some (ignores c d ignored.NotAnswered))))
      [ true ↦ viewed_keeps f payload entry | false ↦ ignores_keeps ignored.NotAnswered ]

  parsed_keeps : (payload : List ℕ) (r : Result Frame FrameFault) → TakenKeepsIf (take_parsed c d payload r)
  parsed_keeps payload (Err fault) = ignores_keeps (fault_cause fault)
  parsed_keeps payload (Ok f) =
      elim (f.dst == control_address) as (λ b. TakenKeepsIf (cond b (take_control c d f.src (control_in payload)) (take_bytes c d f payload (entry_between f.dst f.src d.entries))))
      [ true ↦ control_keeps f.src (control_in payload) (control_fits payload) | false ↦ take_bytes_keeps f payload (entry_between f.dst f.src d.entries) ]

  frame_keeps : (bytes : List ℕ) → TakenKeepsIf (take_frame c d bytes)
  unfolding take_frame
  frame_keeps bytes = parsed_keeps (drop 16 bytes) (frame_in bytes)

module _ (s : State) (K : OfDevice s.core) where
  broke_keeps : (reply : DeviceReply) → ReplyFits reply → DeviceKeeps s K (broke s reply)
  broke_keeps reply fits = record { kept = K.broke s.world.device.entries; clients = refl; driver = refl; fits = fits }

  due_kept : (due : Due) → K.holds (due_change due s.core)
  due_kept going_online = K.left
  due_kept (refusing refusal) = K.left
  due_kept (answering entry view) = K.left
  due_kept (denying entry) = K.dropped entry.end
  due_kept (sending entry bytes) = K.taken entry.end
  due_kept (leaving entry) = K.dropped entry.end

  sent_keeps : (due : Due) (chain : Chain) → DeviceKeeps s K (sent_by_device s due chain)
  sent_keeps due chain = record { kept = due_kept due; clients = refl; driver = refl; fits = due_fits due }

  taken_keeps : (chain : Chain) (bytes : List ℕ) (o : Option Taken) → TakenKeepsIf s.core K s.world.device o → DeviceKeepsIf s K (option_map (taken_by_device s chain bytes) o)
  taken_keeps chain bytes None keeps = tt
  taken_keeps chain bytes (Some taken) keeps = record { kept = keeps.kept; clients = refl; driver = refl; fits = keeps.fits }

  next_keeps : (r : Result (Option Chain) RingFault) → DeviceKeepsIf s K (take_next s r)
  next_keeps (Err fault) = broke_keeps (ring_broke 1 fault) (ring_fits 1 fault)
  next_keeps (Ok None) = tt
  next_keeps (Ok (Some chain)) =
      let bytes : List ℕ = bytes_at chain.parts s.world.memory in
      taken_keeps chain bytes (take_frame s.core s.world.device bytes) (frame_keeps s.core K s.world.device bytes)

  take_keeps : DeviceKeepsIf s K (take_step s)
  unfolding take_step
  take_keeps = next_keeps (chain s.world.memory s.world.device.from_normal)

  send_keeps : (due : Due) (r : Result (Option Chain) RingFault) → DeviceKeepsIf s K (send_due s due r)
  send_keeps due (Err fault) = broke_keeps (ring_broke 0 fault) (ring_fits 0 fault)
  send_keeps due (Ok None) = take_keeps
  send_keeps due (Ok (Some chain)) =
      let reply : DeviceReply = device.Broke 0 broken.SmallBuffer chain.head in
      elim (nat_lt (room chain.parts) (length (due_frame due))) as (λ b. DeviceKeepsIf s K (cond b (Some (broke s reply)) (Some (sent_by_device s due chain))))
      [ true ↦ broke_keeps reply (record { bytes = omega arith; handles = omega arith }) | false ↦ sent_keeps due chain ]

  by_due_keeps : (due : Option Due) → DeviceKeepsIf s K (step_by_due s due)
  by_due_keeps None = take_keeps
  by_due_keeps (Some due) = send_keeps due (chain s.world.memory s.world.device.to_normal)

  pub device_keeps : DeviceKeepsIf s K (device_step s)
  unfolding device_step
  device_keeps =
      elim (has_device s.world.clients && not s.world.device.broken) as (λ b. DeviceKeepsIf s K (cond b (step_by_due s (due_of s.core s.world.device)) None))
      [ true ↦ by_due_keeps (due_of s.core s.world.device) | false ↦ tt ]
