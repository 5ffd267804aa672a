-- A step of the device keeps its entries' ends bridged, and no others.
use Rattle.std.proofs.Common.{◌≡◌, ◌≤◌, ◌<◌, ℕ, ◌==◌, ◌&&◌, inl, inr, Bool, true, false, cond, not, List, [], ◌∷◌, ◌++◌, length, drop, map, Option, Some, None, refl, ap, ◌∙◌, subst, sym, arith, tests}
use Rattle.std.specs.Prelude.{Result, Ok, Err, nat_le, nat_lt, slice_get}
use Rattle.std.specs.List.{AllByRecursion, cons_option, filter, filter_map, find, fold, list_any}
use Rattle.std.specs.Option.{option_map}
use Rattle.kernel_values.specs.declared.errno.Errno.{Errno}
use Rattle.kernel_values.specs.declared.errno.Errno.TheVariants as errno
use Rattle.kernel_values.specs.declared.reply.BreakCause.TheVariants as broken
use Rattle.kernel_values.specs.declared.reply.DeviceReply.{DeviceReply}
use Rattle.kernel_values.specs.declared.reply.DeviceReply.TheVariants as device
use Rattle.kernel_values.specs.declared.reply.IgnoreCause.{IgnoreCause}
use Rattle.kernel_values.specs.declared.reply.IgnoreCause.TheVariants as ignored
use Rattle.kernel_values.specs.declared.state.CoreState.{CoreState}
use Rattle.kernel_values.specs.declared.state.State.{State}
use Rattle.kernel_values.specs.declared.world.BridgeEntry.{BridgeEntry}
use Rattle.kernel_values.specs.declared.world.Device.{Device}
use Rattle.kernel_values.specs.declared.world.Refusal.{Refusal}
use Rattle.virtqueue.specs.Bytes.{bytes_at, room}
use Rattle.virtqueue.specs.Chains.{chain}
use Rattle.virtqueue.specs.declared.chain.Chain.{Chain}
use Rattle.virtqueue.specs.declared.queue.RingFault.{RingFault}
use Rattle.tipc_proto.specs.Controls.{control_in}
use Rattle.tipc_proto.specs.Frames.{frame_in}
use Rattle.tipc_proto.specs.declared.controls.Control.{Control}
use Rattle.tipc_proto.specs.declared.controls.Control.TheVariants.{ConnReq, ConnRsp, DiscReq, GoOffline, GoOnline}
use Rattle.tipc_proto.specs.declared.faults.FrameFault.{FrameFault}
use Rattle.tipc_proto.specs.declared.frames.Frame.{Frame}
use Rattle.kernel_types.specs.Bridge.{ns_connect, ns_drop, ns_peek, ns_push, ns_take, ns_view}
use Rattle.kernel_types.specs.Device.{DeviceStep, Due, Taken, answered_due, broke, bytes_taken, device_step, due_change, due_device, due_frame, due_of, entry_between, entry_due, entry_dropped, entry_limit, fault_cause, free_secure, has_device, ignores, is_entry_between, leave_taken, new_entry, queued_due, refusal_limit, request_connected, request_refused, request_taken, ring_broke, send_due, sent_by_device, step_by_due, take_bytes, take_control, take_frame, take_next, take_parsed, take_request, take_step, take_viewed, taken_by_device, unanswered_due, with_entry, without_entry}
use Rattle.kernel_types.specs.Device.Due.{answering, denying, going_online, leaving, refusing, sending}
use Rattle.kernel_types.specs.Events.{is_disconnected}
use Rattle.kernel_types.specs.Sending.{control_address}
use Rattle.kernel_types.specs.declared.bridge.EndView.{EndView}
use Rattle.step_laws.proofs.BridgeLeaving.{push_leaves, take_leaves}
use Rattle.bridge_laws.proofs.Core.{connect_names, drop_names}
use Rattle.bridge_laws.proofs.Counts.{one_if, times, times_apart, times_cons, times_fewer, times_gone}
use Rattle.kernel_laws.specs.Entries.{IsAmong}
use Rattle.kernel_laws.proofs.Dues.{IfFound, IsDueOf, due_of_entries, found_is_among}
use Rattle.bridge_laws.proofs.Entries.{Bridged, bridged_answered, bridged_less, bridged_more, nothing_bridged}

-- A broken device drops the ends of all its entries.

dropped_fewer : (c : CoreState) (entries : List BridgeEntry) (n : ℕ) → times (λ (x : ℕ). x) n (fold entry_dropped c entries).bridged ≤ times (λ (x : ℕ). x) n c.bridged
dropped_fewer c [] n = omega arith
dropped_fewer c (entry ∷ entries) n =
    let after : CoreState = entry_dropped c entry in
    let here : times (λ (x : ℕ). x) n after.bridged ≡ times (λ (x : ℕ). x) n (filter (λ other. not (other == entry.end)) c.bridged) =
    ap (λ (l : List ℕ). times (λ (x : ℕ). x) n l) (drop_names true entry.end c) in
    omega (arith, here, times_fewer (λ (x : ℕ). x) (λ other. not (other == entry.end)) n c.bridged, dropped_fewer after entries n)

-- what no entry keeps is not bridged, and what one keeps is dropped
dropped_all : (c : CoreState) (entries : List BridgeEntry) (n : ℕ) → times (λ (x : ℕ). x) n c.bridged ≤ times (λ (e : BridgeEntry). e.end) n entries
    → times (λ (x : ℕ). x) n c.bridged ≤ 1 → times (λ (x : ℕ). x) n (fold entry_dropped c entries).bridged ≡ 0
dropped_all c [] n few once = omega (arith, few)
dropped_all c (entry ∷ entries) n few once =
    let after : CoreState = entry_dropped c entry in
    let less : List ℕ = filter (λ other. not (other == entry.end)) c.bridged in
    let here : times (λ (x : ℕ). x) n after.bridged ≡ times (λ (x : ℕ). x) n less = ap (λ (l : List ℕ). times (λ (x : ℕ). x) n l) (drop_names true entry.end c) in
    let P : Bool → Type 0 = λ b. (entry.end == n) ≡ b → times (λ (x : ℕ). x) n (fold entry_dropped after entries).bridged ≡ 0 in
    let go : (b : Bool) → P b = λ b. elim b as (λ v. P v) [
      | true ↦ (λ e.
          let is : entry.end ≡ n = grind (arith, tests) in
          let none : times (λ (x : ℕ). x) n less ≡ 0 =
          ap (λ (m : ℕ). times (λ (x : ℕ). x) n (filter (λ other. not (other == m)) c.bridged)) is ∙ times_gone (λ (x : ℕ). x) n c.bridged in
          omega (arith, here, none, dropped_fewer after entries n))
      | false ↦ (λ e.
          let counts : one_if (entry.end == n) ≡ 0 = ap one_if e in
          let kept : times (λ (x : ℕ). x) n less ≡ times (λ (x : ℕ). x) n c.bridged = times_apart (λ (x : ℕ). x) n entry.end c.bridged e in
          dropped_all after entries n (omega (arith, here, kept, counts, few, times_cons (λ (x : BridgeEntry). x.end) n entry entries)) (omega (arith, here, kept, once)))
    ] in
    go (entry.end == n) refl

-- The steps.

abbrev pub BridgedLeft : Option DeviceStep → Type 0
BridgedLeft None = Unit {0}
BridgedLeft (Some done) = Bridged done.state.core.bridged done.state.world.device.entries

module _ (c : CoreState) (d : Device) (below : AllByRecursion (λ (x : ℕ). x < c.next) c.bridged) (k : Bridged c.bridged d.entries) where
  same_ends : (after : CoreState) → after.bridged ≡ c.bridged → Bridged after.bridged d.entries
  same_ends after same = subst (λ (l : List ℕ). Bridged l d.entries) (sym same) k

  dropped : (entry : BridgeEntry) → IsAmong entry d.entries → Bridged (ns_drop false entry.end c).bridged (without_entry entry d.entries)
  dropped entry one =
      subst (λ (l : List ℕ). Bridged l (without_entry entry d.entries)) (sym (drop_names false entry.end c)) (bridged_less c.bridged d.entries entry k one)

  due_bridged : (due : Due) → IsDueOf d.entries (Some due) → Bridged (due_change due c).core.bridged (due_device due d).entries
  due_bridged going_online is = k
  due_bridged (refusing refusal) is = k
  due_bridged (answering entry view) is = bridged_answered c.bridged d.entries entry.secure k
  due_bridged (denying entry) is = dropped entry is
  due_bridged (sending entry bytes) is = same_ends (ns_take c entry.end).core (take_leaves c entry.end).bridged
  due_bridged (leaving entry) is = dropped entry is

  abbrev TakenBridges : Taken → Type 0
  TakenBridges taken = Bridged taken.change.core.bridged taken.device.entries

  abbrev TakenBridgesIf : Option Taken → Type 0
  TakenBridgesIf None = Unit {0}
  TakenBridgesIf (Some taken) = TakenBridges taken

  connected_bridges : (src : ℕ) (path : List ℕ) → length d.entries < 64 → (r : Result CoreState Errno) → ns_connect c path ≡ r → TakenBridges (request_connected c d src path r)
  connected_bridges src path few (Err e) is = k
  connected_bridges src path few (Ok made) is =
      subst (λ (l : List ℕ). Bridged l (with_entry (new_entry (free_secure d.entries) src c.next) d.entries)) (sym (connect_names c path made is)) (bridged_more c.bridged d.entries src c.next below few k)

  request_bridges : (src : ℕ) (path : List ℕ) → TakenBridges (request_taken c d src path)
  unfolding entry_limit
  request_bridges src path =
      let more : Taken = request_connected c d src path (ns_connect c path) in
      let P : Bool → Type 0 = λ b. nat_le 64 (length d.entries) ≡ b → TakenBridges (cond b (request_refused c d src path errno.NoResources) more) in
      let go : (b : Bool) → P b = λ b. elim b as (λ v. P v) [
        | true ↦ (λ is. k)
        | false ↦ (λ is. let few : length d.entries < 64 = grind (arith, tests) in connected_bridges src path few (ns_connect c path) refl)
      ] in
      elim (list_any (λ entry. entry.normal == src) d.entries)
      as (λ b. TakenBridges (cond b (request_refused c d src path errno.AlreadyExists) (cond (nat_le 64 (length d.entries)) (request_refused c d src path errno.NoResources) more)))
      [ true ↦ k | false ↦ go (nat_le 64 (length d.entries)) refl ]

  leave_bridges : (src : ℕ) (o : Option BridgeEntry) → IfFound d.entries o → TakenBridges (leave_taken c d src o)
  leave_bridges src None found = k
  leave_bridges src (Some entry) found = dropped entry found

  control_bridges : (src : ℕ) (r : Result Control FrameFault) → TakenBridgesIf (take_control c d src r)
  control_bridges src (Err fault) = k
  control_bridges src (Ok (ConnReq path)) =
      elim (nat_le refusal_limit (length d.refusals)) as (λ b. TakenBridgesIf (cond b None (Some (request_taken c d src path)))) [ true ↦ tt | false ↦ request_bridges src path ]
  control_bridges src (Ok (DiscReq target)) = leave_bridges src (entry_between target src d.entries) (found_is_among target src d.entries)
  control_bridges src (Ok GoOnline) = k
  control_bridges src (Ok GoOffline) = k
  control_bridges src (Ok (ConnRsp target status remote size count)) = k

  viewed_bridges : (f : Frame) (payload : List ℕ) (entry : BridgeEntry) (view : EndView) → TakenBridgesIf (take_viewed c d f payload entry view)
  viewed_bridges f payload entry view =
      let pushed : TakenBridges (bytes_taken c d f payload entry) = same_ends (ns_push c entry.end payload).core (push_leaves c entry.end payload).bridged in
      let last : Option Taken = cond view.peer_full None (Some (bytes_taken c d f payload entry)) in
      let last_bridges : TakenBridgesIf last = elim view.peer_full as (λ b. TakenBridgesIf (cond b None (Some (bytes_taken c d f payload entry)))) [ true ↦ tt | false ↦ pushed ] in
      let small : TakenBridgesIf (cond (nat_lt view.size (length payload)) (Some (ignores c d ignored.TooBig)) last) =
      elim (nat_lt view.size (length payload)) as (λ b. TakenBridgesIf (cond b (Some (ignores c d ignored.TooBig)) last)) [ true ↦ k | false ↦ last_bridges ] in
      elim (is_disconnected view.state) as (λ b. TakenBridgesIf (cond b (Some (ignores c d ignored.PeerGone)) (cond (nat_lt view.size (length payload)) (Some (ignores c d ignored.TooBig)) last)))
      [ true ↦ k | false ↦ small ]

  bytes_bridge : (f : Frame) (payload : List ℕ) (o : Option BridgeEntry) → TakenBridgesIf (take_bytes c d f payload o)
  bytes_bridge f payload None = k
  bytes_bridge f payload (Some entry) =
      elim entry.answered as (λ b. TakenBridgesIf (cond b (take_viewed c d f payload entry (ns_view c entry.end)) (Some (ignores c d ignored.NotAnswered))))
      [ true ↦ viewed_bridges f payload entry (ns_view c entry.end) | false ↦ k ]

  parsed_bridges : (payload : List ℕ) (r : Result Frame FrameFault) → TakenBridgesIf (take_parsed c d payload r)
  parsed_bridges payload (Err fault) = k
  parsed_bridges payload (Ok f) =
      elim (f.dst == control_address) as (λ b. TakenBridgesIf (cond b (take_control c d f.src (control_in payload)) (take_bytes c d f payload (entry_between f.dst f.src d.entries))))
      [ true ↦ control_bridges f.src (control_in payload) | false ↦ bytes_bridge f payload (entry_between f.dst f.src d.entries) ]

  pub frame_bridges : (bytes : List ℕ) → TakenBridgesIf (take_frame c d bytes)
  unfolding take_frame
  frame_bridges bytes = parsed_bridges (drop 16 bytes) (frame_in bytes)

module _ (s : State) (below : AllByRecursion (λ (x : ℕ). x < s.core.next) s.core.bridged) (k : Bridged s.core.bridged s.world.device.entries) where
  broke_bridges : (reply : DeviceReply) → BridgedLeft (Some (broke s reply))
  broke_bridges reply =
      let none : (n : ℕ) → times (λ (x : ℕ). x) n (fold entry_dropped s.core s.world.device.entries).bridged ≡ 0 = λ n.
      dropped_all s.core s.world.device.entries n (omega (arith, k.same n)) (k.once n) in
      record { same = none; once = λ n. omega (arith, none n); addresses = λ n. omega arith }

  taken_bridges : (found : Chain) (bytes : List ℕ) (o : Option Taken) → TakenBridgesIf s.core s.world.device below k o → BridgedLeft (option_map (taken_by_device s found bytes) o)
  taken_bridges found bytes None bridges = tt
  taken_bridges found bytes (Some taken) bridges = bridges

  next_bridges : (r : Result (Option Chain) RingFault) → BridgedLeft (take_next s r)
  next_bridges (Err fault) = broke_bridges (ring_broke 1 fault)
  next_bridges (Ok None) = tt
  next_bridges (Ok (Some found)) =
      taken_bridges found (bytes_at found.parts s.world.memory) (take_frame s.core s.world.device (bytes_at found.parts s.world.memory))
      (frame_bridges s.core s.world.device below k (bytes_at found.parts s.world.memory))

  take_bridges : BridgedLeft (take_step s)
  unfolding take_step
  take_bridges = next_bridges (chain s.world.memory s.world.device.from_normal)

  send_bridges : (due : Due) → IsDueOf s.world.device.entries (Some due) → (r : Result (Option Chain) RingFault) → BridgedLeft (send_due s due r)
  send_bridges due is (Err fault) = broke_bridges (ring_broke 0 fault)
  send_bridges due is (Ok None) = take_bridges
  send_bridges due is (Ok (Some found)) =
      elim (nat_lt (room found.parts) (length (due_frame due)))
      as (λ b. BridgedLeft (cond b (Some (broke s (device.Broke 0 broken.SmallBuffer found.head))) (Some (sent_by_device s due found))))
      [ true ↦ broke_bridges (device.Broke 0 broken.SmallBuffer found.head) | false ↦ due_bridged s.core s.world.device below k due is ]

  by_due_bridges : (o : Option Due) → IsDueOf s.world.device.entries o → BridgedLeft (step_by_due s o)
  by_due_bridges None is = take_bridges
  by_due_bridges (Some due) is = send_bridges due is (chain s.world.memory s.world.device.to_normal)

  pub device_bridges : BridgedLeft (device_step s)
  unfolding device_step
  device_bridges =
      elim (has_device s.world.clients && not s.world.device.broken) as (λ b. BridgedLeft (cond b (step_by_due s (due_of s.core s.world.device)) None))
      [ true ↦ by_due_bridges (due_of s.core s.world.device) (due_of_entries s.core s.world.device) | false ↦ tt ]
