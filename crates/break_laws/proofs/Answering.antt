-- Which steps of the device answer that it broke: those that drop the ends of all entries.
use Rattle.std.proofs.Common.{◌≡◌, ℕ, ◌==◌, ◌&&◌, Bool, true, false, cond, not, List, length, drop, Option, Some, None, refl, sym, ◌∙◌}
use Rattle.std.specs.Prelude.{Result, Ok, Err, nat_le, nat_lt}
use Rattle.std.specs.List.{fold, list_any}
use Rattle.std.specs.Option.{option_map}
use Rattle.kernel_values.specs.declared.errno.Errno.{Errno}
use Rattle.kernel_values.specs.declared.errno.Errno.TheVariants as errno
use Rattle.kernel_values.specs.declared.reply.BreakCause.TheVariants as broken
use Rattle.kernel_values.specs.declared.reply.DeviceReply.{DeviceReply}
use Rattle.kernel_values.specs.declared.reply.DeviceReply.TheVariants as device
use Rattle.kernel_values.specs.declared.reply.IgnoreCause.TheVariants as ignored
use Rattle.kernel_values.specs.declared.state.CoreState.{CoreState}
use Rattle.kernel_values.specs.declared.state.State.{State}
use Rattle.kernel_values.specs.declared.world.BridgeEntry.{BridgeEntry}
use Rattle.kernel_values.specs.declared.world.Device.{Device}
use Rattle.virtqueue.specs.Bytes.{bytes_at, room}
use Rattle.virtqueue.specs.Chains.{chain}
use Rattle.virtqueue.specs.declared.chain.Chain.{Chain}
use Rattle.virtqueue.specs.declared.queue.RingFault.{RingFault}
use Rattle.tipc_proto.specs.Controls.{control_in}
use Rattle.tipc_proto.specs.Frames.{frame_in}
use Rattle.tipc_proto.specs.declared.controls.Control.{Control}
use Rattle.tipc_proto.specs.declared.controls.Control.TheVariants.{ConnReq, ConnRsp, DiscReq, GoOffline, GoOnline}
use Rattle.tipc_proto.specs.declared.faults.FrameFault.{FrameFault}
use Rattle.tipc_proto.specs.declared.frames.Frame.{Frame}
use Rattle.kernel_types.specs.Bridge.{ns_connect, ns_view}
use Rattle.kernel_types.specs.Device.{DeviceStep, Due, Taken, broke, broken_device, bytes_taken, device_step, due_frame, due_of, due_reply, entry_between, entry_dropped, entry_limit, has_device, ignores, leave_taken, refusal_limit, request_connected, request_refused, request_taken, ring_broke, send_due, sent_by_device, step_by_due, take_bytes, take_control, take_frame, take_next, take_parsed, take_request, take_step, take_viewed, taken_by_device}
use Rattle.kernel_types.specs.Device.Due.{answering, denying, going_online, leaving, refusing, sending}
use Rattle.kernel_types.specs.Events.{is_disconnected}
use Rattle.kernel_types.specs.Sending.{control_address}
use Rattle.kernel_types.specs.declared.bridge.EndView.{EndView}

abbrev pub is_break : DeviceReply → Bool
is_break (device.Broke queue cause place) = true
is_break _ = false

-- A frame that is taken breaks nothing.

abbrev IsCalm : Taken → Type 0
IsCalm taken = is_break taken.reply ≡ false

abbrev IsCalmIf : Option Taken → Type 0
IsCalmIf None = Unit {0}
IsCalmIf (Some taken) = IsCalm taken

module _ (c : CoreState) (d : Device) where
  calm_if : (b : Bool) (one other : Taken) → IsCalm one → IsCalm other → IsCalm (cond b one other)
  calm_if true one other p q = p
  calm_if false one other p q = q

  calm_some : (b : Bool) (one other : Option Taken) → IsCalmIf one → IsCalmIf other → IsCalmIf (cond b one other)
  calm_some true one other p q = p
  calm_some false one other p q = q

  connected_calm : (src : ℕ) (path : List ℕ) (r : Result CoreState Errno) → IsCalm (request_connected c d src path r)
  connected_calm src path (Err e) = refl
  connected_calm src path (Ok made) = refl

  request_calm : (src : ℕ) (path : List ℕ) → IsCalm (request_taken c d src path)
  request_calm src path =
      let last : Taken = request_connected c d src path (ns_connect c path) in
      calm_if (list_any (λ entry. entry.normal == src) d.entries) (request_refused c d src path errno.AlreadyExists)
      (cond (nat_le entry_limit (length d.entries)) (request_refused c d src path errno.NoResources) last) refl
      (calm_if (nat_le entry_limit (length d.entries)) (request_refused c d src path errno.NoResources) last refl (connected_calm src path (ns_connect c path)))

  take_request_calm : (src : ℕ) (path : List ℕ) → IsCalmIf (take_request c d src path)
  take_request_calm src path = calm_some (nat_le refusal_limit (length d.refusals)) None (Some (request_taken c d src path)) tt (request_calm src path)

  leave_calm : (src : ℕ) (entry : Option BridgeEntry) → IsCalm (leave_taken c d src entry)
  leave_calm src None = refl
  leave_calm src (Some entry) = refl

  control_calm : (src : ℕ) (r : Result Control FrameFault) → IsCalmIf (take_control c d src r)
  control_calm src (Err fault) = refl
  control_calm src (Ok (ConnReq path)) = take_request_calm src path
  control_calm src (Ok (DiscReq target)) = leave_calm src (entry_between target src d.entries)
  control_calm src (Ok GoOnline) = refl
  control_calm src (Ok GoOffline) = refl
  control_calm src (Ok (ConnRsp target status remote size count)) = refl

  viewed_calm : (f : Frame) (payload : List ℕ) (entry : BridgeEntry) (view : EndView) → IsCalmIf (take_viewed c d f payload entry view)
  viewed_calm f payload entry view =
      let some : Option Taken = Some (bytes_taken c d f payload entry) in
      let held : Option Taken = cond view.peer_full None some in
      calm_some (is_disconnected view.state) (Some (ignores c d ignored.PeerGone)) (cond (nat_lt view.size (length payload)) (Some (ignores c d ignored.TooBig)) held) refl
      (calm_some (nat_lt view.size (length payload)) (Some (ignores c d ignored.TooBig)) held refl (calm_some view.peer_full None some tt refl))

  bytes_calm : (f : Frame) (payload : List ℕ) (entry : Option BridgeEntry) → IsCalmIf (take_bytes c d f payload entry)
  bytes_calm f payload None = refl
  bytes_calm f payload (Some entry) =
      calm_some entry.answered (take_viewed c d f payload entry (ns_view c entry.end)) (Some (ignores c d ignored.NotAnswered)) (viewed_calm f payload entry (ns_view c entry.end)) refl

  parsed_calm : (payload : List ℕ) (r : Result Frame FrameFault) → IsCalmIf (take_parsed c d payload r)
  parsed_calm payload (Err fault) = refl
  parsed_calm payload (Ok f) =
      calm_some (f.dst == control_address) (take_control c d f.src (control_in payload)) (take_bytes c d f payload (entry_between f.dst f.src d.entries))
      (control_calm f.src (control_in payload)) (bytes_calm f payload (entry_between f.dst f.src d.entries))

  frame_calm : (bytes : List ℕ) → IsCalmIf (take_frame c d bytes)
  unfolding take_frame
  frame_calm bytes = parsed_calm (drop 16 bytes) (frame_in bytes)

due_calm : (due : Due) → is_break (due_reply due) ≡ false
due_calm going_online = refl
due_calm (refusing refusal) = refl
due_calm (answering entry view) = refl
due_calm (denying entry) = refl
due_calm (sending entry bytes) = refl
due_calm (leaving entry) = refl

-- A step.

module _ (s : State) where
  -- the state in which every entry's end is dropped
  abbrev pub all_dropped : State
  all_dropped = record { core = fold entry_dropped s.core s.world.device.entries; world = record s.world { device = broken_device s.world.device } }

  abbrev pub BreaksSo : Option DeviceStep → Type 0
  BreaksSo None = Unit {0}
  BreaksSo (Some done) = is_break done.reply ≡ true → done.state ≡ all_dropped

  breaks_if : (b : Bool) (one other : Option DeviceStep) → BreaksSo one → BreaksSo other → BreaksSo (cond b one other)
  breaks_if true one other p q = p
  breaks_if false one other p q = q

  broke_so : (reply : DeviceReply) → BreaksSo (Some (broke s reply))
  broke_so reply is = refl

  taken_so : (chain : Chain) (bytes : List ℕ) (o : Option Taken) → IsCalmIf o → BreaksSo (option_map (taken_by_device s chain bytes) o)
  taken_so chain bytes None calm = tt
  taken_so chain bytes (Some taken) calm = λ is. let bad : false ≡ true = sym calm ∙ is in absurd (cc)

  next_so : (r : Result (Option Chain) RingFault) → BreaksSo (take_next s r)
  next_so (Err fault) = broke_so (ring_broke 1 fault)
  next_so (Ok None) = tt
  next_so (Ok (Some chain)) = taken_so chain (bytes_at chain.parts s.world.memory) (take_frame s.core s.world.device (bytes_at chain.parts s.world.memory)) (frame_calm s.core s.world.device (bytes_at chain.parts s.world.memory))

  take_so : BreaksSo (take_step s)
  unfolding take_step
  take_so = next_so (chain s.world.memory s.world.device.from_normal)

  sent_so : (due : Due) (chain : Chain) → BreaksSo (Some (sent_by_device s due chain))
  sent_so due chain is = let bad : false ≡ true = sym (due_calm due) ∙ is in absurd (cc)

  send_so : (due : Due) (r : Result (Option Chain) RingFault) → BreaksSo (send_due s due r)
  send_so due (Err fault) = broke_so (ring_broke 0 fault)
  send_so due (Ok None) = take_so
  send_so due (Ok (Some chain)) =
      breaks_if (nat_lt (room chain.parts) (length (due_frame due))) (Some (broke s (device.Broke 0 broken.SmallBuffer chain.head))) (Some (sent_by_device s due chain))
      (broke_so (device.Broke 0 broken.SmallBuffer chain.head)) (sent_so due chain)

  by_due_so : (due : Option Due) → BreaksSo (step_by_due s due)
  by_due_so None = take_so
  by_due_so (Some due) = send_so due (chain s.world.memory s.world.device.to_normal)

  pub device_so : BreaksSo (device_step s)
  unfolding device_step
  device_so = breaks_if (has_device s.world.clients && not s.world.device.broken) (step_by_due s (due_of s.core s.world.device)) None (by_due_so (due_of s.core s.world.device)) tt
