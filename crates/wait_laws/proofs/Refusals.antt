-- The device tells no client that its connect was cancelled, where the frames that it takes are from the addresses of connections.
use Rattle.std.proofs.Common.{◌≡◌, ℕ, ◌^◌, ◌<◌, ◌≤◌, Bool, true, false, cond, not, List, [], ◌∷◌, length, drop, map, Option, Some, None, Result, Ok, Err, refl, ap, sym, ◌∙◌, subst, arith}
use Rattle.std.specs.Prelude.{◌==◌, ◌&&◌, nat_lt, nat_le, slice_get}
use Rattle.std.specs.List.{cons_option, filter, filter_map, list_any, position_or_len}
use Rattle.std.specs.Option.{option_map}
use Rattle.byteorder.specs.Endian.{little_number}
use Rattle.byteorder.specs.Numbers.{little_number-reads_back}
use Rattle.kernel_values.specs.declared.errno.Errno.{Errno}
use Rattle.kernel_values.specs.declared.errno.Errno.TheVariants as errno
use Rattle.kernel_values.specs.declared.reply.BreakCause.TheVariants as broken
use Rattle.kernel_values.specs.declared.reply.DeviceReply.TheVariants as device
use Rattle.kernel_values.specs.declared.state.Connector.TheVariants as connector
use Rattle.kernel_values.specs.declared.state.CoreState.{CoreState}
use Rattle.kernel_values.specs.declared.state.State.{State}
use Rattle.kernel_values.specs.declared.world.BridgeEntry.{BridgeEntry}
use Rattle.kernel_values.specs.declared.world.Device.{Device}
use Rattle.kernel_values.specs.declared.world.Refusal.{Refusal}
use Rattle.kernel_types.specs.declared.bridge.EndView.{EndView}
use Rattle.kernel_types.specs.Bridge.{ns_connect, ns_connect_by, ns_peek, ns_view}
use Rattle.kernel_types.specs.Connects.{Way, to_port, to_start, to_nothing, way_of}
use Rattle.kernel_types.specs.Device.{DeviceStep, Due, Taken, answered_due, answered_entry, broke, bytes_taken, device_step, due_device, due_frame, due_of, entry_between, entry_due, entry_limit, free_secure, has_device, leave_taken, new_entry, queued_due, refusal_limit, request_connected, request_refused, request_taken, send_due, sent_by_device, step_by_due, take_bytes, take_control, take_frame, take_next, take_parsed, take_step, take_viewed, taken_by_device, without_entry}
use Rattle.kernel_types.specs.Device.Due.{going_online, refusing, answering, denying, sending, leaving}
use Rattle.kernel_types.specs.Errors.{number_of}
use Rattle.kernel_types.specs.Events.{is_disconnected}
use Rattle.kernel_types.specs.Ports.{admits}
use Rattle.kernel_types.specs.Sending.{answer_frame, control_address, frame, leave_frame}
use Rattle.tipc_proto.specs.declared.controls.Control.{Control}
use Rattle.tipc_proto.specs.declared.controls.Control.TheVariants.{GoOnline, GoOffline, ConnReq, ConnRsp, DiscReq}
use Rattle.tipc_proto.specs.declared.faults.FrameFault.{FrameFault}
use Rattle.tipc_proto.specs.declared.frames.Frame.{Frame}
use Rattle.tipc_proto.specs.Controls.{answer_body, control_in, four_at, leave_body, message}
use Rattle.tipc_proto.specs.Frames.{frame_in}
use Rattle.virtqueue.specs.declared.chain.Chain.{Chain}
use Rattle.virtqueue.specs.declared.queue.RingFault.{RingFault}
use Rattle.virtqueue.specs.Bytes.{bytes_at, room}
use Rattle.virtqueue.specs.Chains.{chain}
use Rattle.carry_laws.proofs.Lists.{AllOf, of_append, of_inserted}
use Rattle.wait_laws.proofs.Connections.{IfFrame}
use Rattle.wait_laws.proofs.Frames.{Addressed, body_of, dst_of, frame_addressed, kind_of, payload_of}

-- A number of none of the addresses that a connection has, and one that it may have.

abbrev pub IsOther : ℕ → Type 0
IsOther status = status ≡ number_of errno.Cancelled → ⊥

abbrev pub IsAddress : ℕ → Type 0
IsAddress address = (1024 ≤ address) × (address < 2 ^ 32)

-- a frame that a client's connection sent
abbrev pub IsPolite : List ℕ → Type 0
IsPolite bytes = IsAddress (little_number 4 bytes)

-- a frame that does not tell CANCELLED
abbrev pub IsHarmless : List ℕ → Type 0
IsHarmless bytes = little_number 4 (drop 4 bytes) ≡ control_address → four_at 0 (drop 16 bytes) ≡ 4 → IsOther (four_at 4 (drop 8 (drop 16 bytes)))

-- What is due.

abbrev IsRefusal : Refusal → Type 0
IsRefusal refusal = refusal.status < number_of errno.Cancelled

abbrev IsFar : BridgeEntry → Type 0
IsFar entry = IsAddress entry.normal

pub record IsClean (d : Device) : Type 0 where
  pub refusals : AllOf IsRefusal d.refusals
  pub entries : AllOf IsFar d.entries

abbrev IsGentle : Due → Type 0
IsGentle (refusing refusal) = IsRefusal refusal
IsGentle (sending entry bytes) = IsFar entry
IsGentle other = Unit {0}

abbrev GentleIf : Option Due → Type 0
GentleIf None = Unit {0}
GentleIf (Some due) = IsGentle due

status_at_four : (target status remote size count : ℕ) → status < 2 ^ 32 → four_at 4 (answer_body target status remote size count) ≡ status
unfolding answer_body
status_at_four target status remote size count small =
    little_number-reads_back 4 status (drop 8 (answer_body target status remote size count)) small

status_of : (target status remote size count : ℕ) → status < 2 ^ 32 → four_at 4 (drop 8 (drop 16 (answer_frame target status remote size count))) ≡ status
status_of target status remote size count small =
    let body : List ℕ = answer_body target status remote size count in
    ap (λ bytes. four_at 4 (drop 8 bytes)) (payload_of control_address control_address (message 4 body))
    ∙ (ap (λ bytes. four_at 4 bytes) (body_of 4 body) ∙ status_at_four target status remote size count small)

answer_harmless : (target status remote size count : ℕ) → status < number_of errno.Cancelled → IsHarmless (answer_frame target status remote size count)
answer_harmless target status remote size count small dst kind is =
    let told : four_at 4 (drop 8 (drop 16 (answer_frame target status remote size count))) ≡ status = status_of target status remote size count (omega (arith, small)) in
    absurd (omega (arith, small, sym told ∙ is))

-- a control message of another type
typed_harmless : (src type : ℕ) (body : List ℕ) → type < 2 ^ 32 → (type ≡ 4 → ⊥) → IsHarmless (frame src control_address (message type body))
typed_harmless src type body small other dst kind is =
    let told : four_at 0 (drop 16 (frame src control_address (message type body))) ≡ type =
    ap (λ bytes. four_at 0 bytes) (payload_of src control_address (message type body)) ∙ kind_of type body small in
    other (sym told ∙ kind)

sent_harmless : (src dst : ℕ) (payload : List ℕ) → IsAddress dst → IsHarmless (frame src dst payload)
sent_harmless src dst payload far is kind status =
    let told : little_number 4 (drop 4 (frame src dst payload)) ≡ dst = dst_of src dst payload far.1 in
    absurd (omega (arith, far.0, sym told ∙ is))

leave_harmless : (target : ℕ) → IsHarmless (leave_frame control_address target)
leave_harmless target = typed_harmless control_address 5 (leave_body target) (omega arith) (λ is. absurd (omega (arith, is)))

due_harmless : (due : Due) → IsGentle due → IsHarmless (due_frame due)
due_harmless going_online gentle = typed_harmless control_address 1 [] (omega arith) (λ is. absurd (omega (arith, is)))
due_harmless (refusing refusal) gentle = answer_harmless refusal.target refusal.status 0 0 0 gentle
due_harmless (answering entry view) gentle = answer_harmless entry.normal 0 entry.secure view.size view.slots (omega arith)
due_harmless (denying entry) gentle = answer_harmless entry.normal (number_of errno.ChannelClosed) 0 0 0 (omega arith)
due_harmless (sending entry bytes) gentle = sent_harmless entry.secure entry.normal bytes gentle
due_harmless (leaving entry) gentle = leave_harmless entry.normal

gentle_if : (b : Bool) (one other : Option Due) → GentleIf one → GentleIf other → GentleIf (cond b one other)
gentle_if true one other p q = p
gentle_if false one other p q = q

answered_gentle : (entry : BridgeEntry) → IsFar entry → (view : EndView) (o : Option (List ℕ)) → GentleIf (answered_due entry view o)
answered_gentle entry far view (Some bytes) = far
answered_gentle entry far view None = gentle_if (is_disconnected view.state) (Some (leaving entry)) None tt tt

entry_gentle : (c : CoreState) (entry : BridgeEntry) → IsFar entry → GentleIf (entry_due c entry)
entry_gentle c entry far =
    gentle_if entry.answered _ _ (answered_gentle entry far (ns_view c entry.end) (ns_peek c entry.end))
    (gentle_if (ns_view c entry.end).accepted (Some (answering entry (ns_view c entry.end))) _ tt
    (gentle_if (is_disconnected (ns_view c entry.end).state) (Some (denying entry)) None tt tt))

led_gentle : (o : Option Due) (dues : List Due) → GentleIf o → GentleIf (slice_get dues 0) → GentleIf (slice_get (cons_option o dues) 0)
led_gentle None dues gentle rest = rest
led_gentle (Some due) dues gentle rest = gentle

first_gentle : (c : CoreState) (entries : List BridgeEntry) → AllOf IsFar entries → GentleIf (slice_get (filter_map (entry_due c) entries) 0)
first_gentle c [] far = tt
first_gentle c (entry ∷ entries) far = led_gentle (entry_due c entry) (filter_map (entry_due c) entries) (entry_gentle c entry far.0) (first_gentle c entries far.1)

queued_gentle : (c : CoreState) (entries : List BridgeEntry) (refusals : List Refusal) → AllOf IsFar entries → AllOf IsRefusal refusals → GentleIf (queued_due c entries refusals)
queued_gentle c entries (refusal ∷ refusals) far low = low.0
queued_gentle c entries [] far low = first_gentle c entries far

due_gentle : (c : CoreState) (d : Device) → IsClean d → GentleIf (due_of c d)
unfolding due_of
due_gentle c d clean = gentle_if d.online _ (Some going_online) (queued_gentle c d.entries d.refusals clean.entries clean.refusals) tt

-- What the device keeps.

of_filter : {X : Type 0} (R : X → Type 0) (p : X → Bool) (xs : List X) → AllOf R xs → AllOf R (filter p xs)
of_filter R p [] all = tt
of_filter R p (x ∷ xs) all = elim (p x) as (λ b. AllOf R (cond b (x ∷ filter p xs) (filter p xs))) [ true ↦ (all.0, of_filter R p xs all.1) | false ↦ of_filter R p xs all.1 ]

of_rest : {X : Type 0} (R : X → Type 0) (xs : List X) → AllOf R xs → AllOf R (drop 1 xs)
of_rest R [] all = tt
of_rest R (x ∷ xs) all = all.1

answered_far : (secure : ℕ) (entry : BridgeEntry) → IsFar entry → IsFar (answered_entry secure entry)
answered_far secure entry far = elim (entry.secure == secure) as (λ b. IsFar (cond b (record entry { answered = true }) entry)) [ true ↦ far | false ↦ far ]

all_answered : (secure : ℕ) (entries : List BridgeEntry) → AllOf IsFar entries → AllOf IsFar (map (answered_entry secure) entries)
all_answered secure [] far = tt
all_answered secure (entry ∷ entries) far = (answered_far secure entry far.0, all_answered secure entries far.1)

without : (entry : BridgeEntry) (d : Device) → IsClean d → IsClean (record d { entries = without_entry entry d.entries })
without entry d clean = record { refusals = clean.refusals; entries = of_filter IsFar (λ other. not (other.secure == entry.secure)) d.entries clean.entries }

due_clean : (due : Due) (d : Device) → IsClean d → IsClean (due_device due d)
due_clean going_online d clean = record { refusals = clean.refusals; entries = clean.entries }
due_clean (refusing refusal) d clean = record { refusals = of_rest IsRefusal d.refusals clean.refusals; entries = clean.entries }
due_clean (answering entry view) d clean = record { refusals = clean.refusals; entries = all_answered entry.secure d.entries clean.entries }
due_clean (denying entry) d clean = without entry d clean
due_clean (sending entry bytes) d clean = clean
due_clean (leaving entry) d clean = without entry d clean

-- The taking of a polite frame.

module _ (c : CoreState) (d : Device) (clean : IsClean d) where
  abbrev CleanIf : Option Taken → Type 0
  CleanIf None = Unit {0}
  CleanIf (Some taken) = IsClean taken.device

  clean_if : (b : Bool) (one other : Option Taken) → CleanIf one → CleanIf other → CleanIf (cond b one other)
  clean_if true one other p q = p
  clean_if false one other p q = q

  refused_clean : (src : ℕ) (path : List ℕ) (e : Errno) → number_of e < number_of errno.Cancelled → IsClean (request_refused c d src path e).device
  refused_clean src path e low = record { refusals = of_append IsRefusal d.refusals (record { target = src; status = number_of e } ∷ []) clean.refusals (low, tt); entries = clean.entries }

  connected_clean : (src : ℕ) (path : List ℕ) (r : Result CoreState Errno) → ((e : Errno) → r ≡ Err e → number_of e < number_of errno.Cancelled) → IsAddress src
      → IsClean (request_connected c d src path r).device
  connected_clean src path (Err e) low far = refused_clean src path e (low e refl)
  connected_clean src path (Ok made) low far = record {
    refusals = clean.refusals;
    entries = of_inserted IsFar (position_or_len (λ other. nat_lt (free_secure d.entries) other.secure) d.entries) (new_entry (free_secure d.entries) src c.next) d.entries far clean.entries;
  }

  abbrev IfLow : Result CoreState Errno → Type 0
  IfLow (Ok made) = Unit {0}
  IfLow (Err e) = number_of e < number_of errno.Cancelled

  low_if : (b : Bool) (one other : Result CoreState Errno) → IfLow one → IfLow other → IfLow (cond b one other)
  low_if true one other p q = p
  low_if false one other p q = q

  way_low : (way : Way) (path : List ℕ) → IfLow (ns_connect_by way c path)
  way_low (to_port id port) path = low_if (not (admits port.flags connector.NormalWorld)) (Err errno.AccessDenied) _ (omega arith) tt
  way_low (to_start place start) path = low_if (not (admits start connector.NormalWorld)) (Err errno.AccessDenied) _ (omega arith) tt
  way_low to_nothing path = omega arith

  connect_low : (path : List ℕ) → IfLow (ns_connect c path)
  unfolding ns_connect
  connect_low path = way_low (way_of c path) path

  request_clean : (src : ℕ) (path : List ℕ) → IsAddress src → IsClean (request_taken c d src path).device
  request_clean src path far =
      let low : (e : Errno) → ns_connect c path ≡ Err e → number_of e < number_of errno.Cancelled = λ e is. subst (λ (r : Result CoreState Errno). IfLow r) is (connect_low path) in
      taken_if (list_any (λ entry. entry.normal == src) d.entries) (request_refused c d src path errno.AlreadyExists) _ (refused_clean src path errno.AlreadyExists (omega arith))
      (taken_if (nat_le entry_limit (length d.entries)) (request_refused c d src path errno.NoResources) _ (refused_clean src path errno.NoResources (omega arith))
      (connected_clean src path (ns_connect c path) low far))
    where
      taken_if : (b : Bool) (one other : Taken) → IsClean one.device → IsClean other.device → IsClean (cond b one other).device
      taken_if true one other p q = p
      taken_if false one other p q = q

  leave_clean : (src : ℕ) (o : Option BridgeEntry) → IsClean (leave_taken c d src o).device
  leave_clean src None = clean
  leave_clean src (Some entry) = without entry d clean

  control_clean : (src : ℕ) → IsAddress src → (r : Result Control FrameFault) → CleanIf (take_control c d src r)
  control_clean src far (Err fault) = clean
  control_clean src far (Ok (ConnReq path)) = clean_if (nat_le refusal_limit (length d.refusals)) None _ tt (request_clean src path far)
  control_clean src far (Ok (DiscReq target)) = leave_clean src (entry_between target src d.entries)
  control_clean src far (Ok GoOnline) = clean
  control_clean src far (Ok GoOffline) = clean
  control_clean src far (Ok (ConnRsp target status remote size count)) = clean

  viewed_clean : (f : Frame) (payload : List ℕ) (entry : BridgeEntry) (view : EndView) → CleanIf (take_viewed c d f payload entry view)
  viewed_clean f payload entry view =
      clean_if (is_disconnected view.state) _ _ clean (clean_if (nat_lt view.size (length payload)) _ _ clean (clean_if view.peer_full None (Some (bytes_taken c d f payload entry)) tt clean))

  bytes_clean : (f : Frame) (payload : List ℕ) (o : Option BridgeEntry) → CleanIf (take_bytes c d f payload o)
  bytes_clean f payload None = clean
  bytes_clean f payload (Some entry) = clean_if entry.answered _ _ (viewed_clean f payload entry (ns_view c entry.end)) clean

  parsed_clean : (bytes payload : List ℕ) (r : Result Frame FrameFault) → Addressed bytes r → IsPolite bytes → CleanIf (take_parsed c d payload r)
  parsed_clean bytes payload (Err fault) at polite = clean
  parsed_clean bytes payload (Ok f) at polite =
      clean_if (f.dst == control_address) _ _ (control_clean f.src (subst (λ n. IsAddress n) (sym at.0) polite) (control_in payload))
      (bytes_clean f payload (entry_between f.dst f.src d.entries))

  frame_clean : (bytes : List ℕ) → IsPolite bytes → CleanIf (take_frame c d bytes)
  unfolding take_frame
  frame_clean bytes polite = parsed_clean bytes (drop 16 bytes) (frame_in bytes) (frame_addressed bytes) polite

-- A step of the device.

pub record StaysClean (done : DeviceStep) : Type 0 where
  pub clean : IsClean done.state.world.device
  pub gave : IfFrame IsHarmless done.gave

module _ (s : State) (clean : IsClean s.world.device) where
  -- where what it took was polite
  abbrev StepsIf : Option DeviceStep → Type 0
  StepsIf None = Unit {0}
  StepsIf (Some done) = IfFrame IsPolite done.took → StaysClean done

  chain_steps : (at : Chain) (bytes : List ℕ) (o : Option Taken) → (IsPolite bytes → CleanIf s.core s.world.device clean o) → StepsIf (option_map (taken_by_device s at bytes) o)
  chain_steps at bytes None is = tt
  chain_steps at bytes (Some taken) is = λ polite. let kept : IsClean taken.device = is polite in
      record { clean = record { refusals = kept.refusals; entries = kept.entries }; gave = tt }

  next_steps : (r : Result (Option Chain) RingFault) → StepsIf (take_next s r)
  next_steps (Err fault) = λ polite. record { clean = record { refusals = tt; entries = tt }; gave = tt }
  next_steps (Ok None) = tt
  next_steps (Ok (Some at)) =
      let bytes : List ℕ = bytes_at at.parts s.world.memory in
      chain_steps at bytes (take_frame s.core s.world.device bytes) (λ polite. frame_clean s.core s.world.device clean bytes polite)

  take_steps : StepsIf (take_step s)
  unfolding take_step
  take_steps = next_steps (chain s.world.memory s.world.device.from_normal)

  sent_steps : (due : Due) → IsGentle due → (at : Chain) → StaysClean (sent_by_device s due at)
  sent_steps due gentle at =
      let kept : IsClean (due_device due s.world.device) = due_clean due s.world.device clean in
      record { clean = record { refusals = kept.refusals; entries = kept.entries }; gave = due_harmless due gentle }

  send_steps : (due : Due) → IsGentle due → (r : Result (Option Chain) RingFault) → StepsIf (send_due s due r)
  send_steps due gentle (Err fault) = λ polite. record { clean = record { refusals = tt; entries = tt }; gave = tt }
  send_steps due gentle (Ok None) = take_steps
  send_steps due gentle (Ok (Some at)) =
      elim (nat_lt (room at.parts) (length (due_frame due))) as (λ b. StepsIf (cond b (Some (broke s (device.Broke 0 broken.SmallBuffer at.head))) (Some (sent_by_device s due at)))) [
        | true ↦ (λ polite. record { clean = record { refusals = tt; entries = tt }; gave = tt })
        | false ↦ (λ polite. sent_steps due gentle at)
      ]

  due_steps : (o : Option Due) → GentleIf o → StepsIf (step_by_due s o)
  due_steps None gentle = take_steps
  due_steps (Some due) gentle = send_steps due gentle (chain s.world.memory s.world.device.to_normal)

  device_steps : StepsIf (device_step s)
  unfolding device_step
  device_steps =
      elim (has_device s.world.clients && not s.world.device.broken) as (λ b. StepsIf (cond b (step_by_due s (due_of s.core s.world.device)) None)) [
        | true ↦ due_steps (due_of s.core s.world.device) (due_gentle s.core s.world.device clean)
        | false ↦ tt
      ]

  pub device_stays : (done : DeviceStep) → device_step s ≡ Some done → IfFrame IsPolite done.took → StaysClean done
  device_stays done is = subst (λ (o : Option DeviceStep). StepsIf o) is device_steps
