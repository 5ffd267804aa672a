-- What the type of a device over a core keeps, through every step.
use Rattle.std.proofs.Common.{◌≡◌, ℕ, ◌++◌, ◌==◌, true, false, cond, not, List, [], ◌∷◌, length, drop, Option, Some, None, refl, sym, ◌∙◌, ap, subst, inl, inr}
use Rattle.std.specs.Prelude.{nat_le, nat_lt, IfErr, IfOk, OnErr, Result, Ok, Err}
use Rattle.std.specs.List.{filter, list_any}
use Rattle.std.specs.Option.{option_map, option_or}
use Rattle.kernel_values.specs.declared.entry.Entry.{Entry}
use Rattle.kernel_values.specs.declared.entry.Event.{Event}
use Rattle.kernel_values.specs.declared.entry.Event.TheVariants as event
use Rattle.kernel_values.specs.declared.errno.Errno.{Errno}
use Rattle.kernel_values.specs.declared.errno.Errno.TheVariants as errno
use Rattle.kernel_values.specs.declared.reply.DeviceReply.{DeviceReply}
use Rattle.kernel_values.specs.declared.reply.DeviceReply.TheVariants as device
use Rattle.kernel_values.specs.declared.reply.IgnoreCause.{IgnoreCause}
use Rattle.kernel_values.specs.declared.reply.IgnoreCause.TheVariants as ignored
use Rattle.kernel_values.specs.declared.reply.BreakCause.TheVariants as broken
use Rattle.kernel_values.specs.declared.state.CoreState.{CoreState}
use Rattle.kernel_values.specs.declared.state.State.{State}
use Rattle.kernel_values.specs.declared.world.BridgeEntry.{BridgeEntry}
use Rattle.kernel_values.specs.declared.world.Device.{Device}
use Rattle.kernel_values.specs.declared.world.Refusal.{Refusal}
use Rattle.kernel_values.specs.declared.items.NoMemory.{NoMemory}
use Rattle.virtqueue.specs.declared.chain.Chain.{Chain}
use Rattle.virtqueue.specs.declared.queue.Queue.{Queue}
use Rattle.virtqueue.specs.declared.queue.RingFault.{RingFault}
use Rattle.virtqueue.specs.Bytes.{bytes_at, room}
use Rattle.virtqueue.specs.Chains.{chain}
use Rattle.tipc_proto.specs.declared.frames.Frame.{Frame}
use Rattle.tipc_proto.specs.declared.faults.FrameFault.{FrameFault}
use Rattle.tipc_proto.specs.declared.controls.Control.{Control}
use Rattle.tipc_proto.specs.declared.controls.Control.TheVariants.{GoOnline, GoOffline, ConnReq, ConnRsp, DiscReq}
use Rattle.tipc_proto.specs.Frames.{frame_in}
use Rattle.tipc_proto.specs.Controls.{control_in}
use Rattle.kernel_types.specs.declared.bridge.EndView.{EndView}
use Rattle.kernel_types.specs.Bridge.{ns_connect, ns_drop, ns_peek, ns_push, ns_take, ns_view}
use Rattle.kernel_types.specs.Bridging.{Idled}
use Rattle.kernel_types.specs.CoreStep.{core_idle}
use Rattle.kernel_types.specs.Device.{Due, DeviceStep, Taken, answered_due, broke, bytes_taken, device_step, due_change, due_device, due_frame, due_of, entry_between, entry_due, entry_limit, fault_cause, free_secure, ignores, leave_taken, new_entry, queue_after, queued_due, refusal_limit, request_connected, request_refused, request_taken, ring_broke, send_due, sent_by_device, step_by_due, take_bytes, take_control, take_frame, take_next, take_parsed, take_step, take_viewed, taken_by_device, unanswered_due, with_entry, without_entry}
use Rattle.kernel_types.specs.Device.Due.{going_online, refusing, answering, denying, sending, leaving}
use Rattle.kernel_types.specs.Events.{is_disconnected}
use Rattle.kernel_types.specs.History.{entry_of, state_or}
use Rattle.kernel_types.specs.Kernel.{Did, Refused}
use Rattle.kernel_types.specs.declared.kernel.StepRefused.{StepRefused}
use Rattle.kernel_types.specs.Sending.{control_address}
use Rattle.kernel_types.specs.Step.{Stepped as StepDone, device_stepped, step}
use Rattle.kernel_types.specs.Sweep.{sweep}
use Rattle.set_laws.specs.Soundness.{NamesAreGiven}
use Rattle.step_laws.proofs.Steps.{StepWalks, step_walks}
use Rattle.set_laws.proofs.Naming.{Given}
use Rattle.set_laws.proofs.NamingChanges.{walk_names}
use Rattle.set_laws.proofs.Soundness.{apart, steps_keep_given, together}
use Rattle.ns_device.specs.declared.told.DeviceOutcome.{DeviceOutcome}
use Rattle.kernel_laws.specs.Entries.{IsAmong}
use Rattle.ns_device.specs.Named.{AreNamed}
use Rattle.ns_device.specs.Owing.{first_due}
use Rattle.ns_device.specs.Value.{IsQueueOf, IsSound}
use Rattle.ns_device.specs.Steps.{Stepped}
use Rattle.ns_device.specs.Worlds.{Left, bare, device_left, left}
use Rattle.ns_device.proofs.Bridging.{connect_names, drop_names, idle_names, push_names, steps_keep_bridge, take_names}
use Rattle.ns_device.proofs.First.{first_is}
use Rattle.ns_device.proofs.Names.{named_answered, named_inserted, named_less}
use Rattle.ns_device.proofs.Passing.{idling_given}
use Rattle.kernel_laws.proofs.Dues.{IfFound, IsDueOf, due_of_entries, found_is_among}

-- A device whose entries are named stays so, and keeps its queues.

record FitsDevice (c : CoreState) (d : Device) : Type 0 where
  fits_to : IsQueueOf 0 d.to_normal
  fits_from : IsQueueOf 1 d.from_normal
  fits_named : AreNamed c.bridged d.entries

abbrev FitsLeft : Option DeviceStep → Type 0
FitsLeft None = Unit {0}
FitsLeft (Some done) = FitsDevice done.state.core done.state.world.device

queue_on : (index : ℕ) (q : Queue) → IsQueueOf index q → IsQueueOf index (queue_after q)
queue_on index q is = record { queue = record { index = is.queue.index; low = is.queue.low; high = is.queue.high }; index_is = is.index_is }

abbrev less : ℕ → List ℕ → List ℕ
less end bridged = filter (λ other. not (other == end)) bridged

module _ (c : CoreState) (d : Device) (sound : IsSound c d) where
  abbrev Named : CoreState → List BridgeEntry → Type 0
  Named after entries = AreNamed after.bridged entries

  same_names : (after : CoreState) → after.bridged ≡ c.bridged → Named after d.entries
  same_names after same = subst (λ (b : List ℕ). AreNamed b d.entries) (sym same) sound.named

  dropped_names : (entry : BridgeEntry) → IsAmong entry d.entries → Named (ns_drop false entry.end c) (without_entry entry d.entries)
  dropped_names entry among =
      subst (λ (b : List ℕ). AreNamed b (without_entry entry d.entries)) (sym (drop_names false entry.end c)) (named_less c.bridged entry d.entries sound.named among)

  due_names : (due : Due) → IsDueOf d.entries (Some due) → Named (due_change due c).core (due_device due d).entries
  due_names going_online is = sound.named
  due_names (refusing refusal) is = sound.named
  due_names (answering entry view) is = named_answered c.bridged entry.secure d.entries sound.named
  due_names (denying entry) is = dropped_names entry is
  due_names (sending entry bytes) is = same_names (ns_take c entry.end).core (take_names c entry.end)
  due_names (leaving entry) is = dropped_names entry is

  due_queue : (due : Due) → (due_device due d).from_normal ≡ d.from_normal
  due_queue going_online = refl
  due_queue (refusing refusal) = refl
  due_queue (answering entry view) = refl
  due_queue (denying entry) = refl
  due_queue (sending entry bytes) = refl
  due_queue (leaving entry) = refl

  -- what the taking of a frame leaves
  record TakenFits (taken : Taken) : Type 0 where
    taken_to : taken.device.to_normal ≡ d.to_normal
    taken_named : Named taken.change.core taken.device.entries

  abbrev TakenFitsIf : Option Taken → Type 0
  TakenFitsIf None = Unit {0}
  TakenFitsIf (Some taken) = TakenFits taken

  ignores_fits : (cause : IgnoreCause) → TakenFits (ignores c d cause)
  ignores_fits cause = record { taken_to = refl; taken_named = sound.named }

  refused_fits : (src : ℕ) (path : List ℕ) (e : Errno) → TakenFits (request_refused c d src path e)
  refused_fits src path e = record { taken_to = refl; taken_named = sound.named }

  connected_fits : (src : ℕ) (path : List ℕ) (r : Result CoreState Errno) → ns_connect c path ≡ r → TakenFits (request_connected c d src path r)
  connected_fits src path (Err e) is = refused_fits src path e
  connected_fits src path (Ok made) is =
      let secure : ℕ = free_secure d.entries in
      let entry : BridgeEntry = new_entry secure src c.next in
      let below = (apart c sound.given).bridged in
      let inserted : AreNamed (c.bridged ++ c.next ∷ []) (with_entry entry d.entries) = named_inserted c.next c.bridged d.entries _ entry below sound.named refl in
      record { taken_to = refl; taken_named = subst (λ (b : List ℕ). AreNamed b (with_entry entry d.entries)) (sym (connect_names c path made is)) inserted }

  request_fits : (src : ℕ) (path : List ℕ) → TakenFits (request_taken c d src path)
  request_fits src path =
      let more : Taken = request_connected c d src path (ns_connect c path) in
      let full : TakenFits (cond (nat_le entry_limit (length d.entries)) (request_refused c d src path errno.NoResources) more) =
      elim (nat_le entry_limit (length d.entries)) as (λ b. TakenFits (cond b (request_refused c d src path errno.NoResources) more))
      [ true ↦ refused_fits src path errno.NoResources | false ↦ connected_fits src path (ns_connect c path) refl ] in
      elim (list_any (λ entry. entry.normal == src) d.entries)
      as (λ b. TakenFits (cond b (request_refused c d src path errno.AlreadyExists) (cond (nat_le entry_limit (length d.entries)) (request_refused c d src path errno.NoResources) more)))
      [ true ↦ refused_fits src path errno.AlreadyExists | false ↦ full ]

  leave_fits : (src : ℕ) (o : Option BridgeEntry) → IfFound d.entries o → TakenFits (leave_taken c d src o)
  leave_fits src None found = ignores_fits ignored.NoEntry
  leave_fits src (Some entry) found = record { taken_to = refl; taken_named = dropped_names entry found }

  control_fits : (src : ℕ) (r : Result Control FrameFault) → TakenFitsIf (take_control c d src r)
  control_fits src (Err fault) = ignores_fits (fault_cause fault)
  control_fits src (Ok (ConnReq path)) =
      elim (nat_le refusal_limit (length d.refusals)) as (λ b. TakenFitsIf (cond b None (Some (request_taken c d src path)))) [ true ↦ tt | false ↦ request_fits src path ]
  control_fits src (Ok (DiscReq target)) = leave_fits src (entry_between target src d.entries) (found_is_among target src d.entries)
  control_fits src (Ok GoOnline) = ignores_fits ignored.NotServed
  control_fits src (Ok GoOffline) = ignores_fits ignored.NotServed
  control_fits src (Ok (ConnRsp target status remote size count)) = ignores_fits ignored.NotServed

  viewed_fits : (f : Frame) (payload : List ℕ) (entry : BridgeEntry) (view : EndView) → TakenFitsIf (take_viewed c d f payload entry view)
  viewed_fits f payload entry view =
      let pushed : TakenFits (bytes_taken c d f payload entry) = record { taken_to = refl; taken_named = same_names (ns_push c entry.end payload).core (push_names c entry.end payload) } in
      let last : Option Taken = cond view.peer_full None (Some (bytes_taken c d f payload entry)) in
      let last_fits : TakenFitsIf last = elim view.peer_full as (λ b. TakenFitsIf (cond b None (Some (bytes_taken c d f payload entry)))) [ true ↦ tt | false ↦ pushed ] in
      let small : TakenFitsIf (cond (nat_lt view.size (length payload)) (Some (ignores c d ignored.TooBig)) last) =
      elim (nat_lt view.size (length payload)) as (λ b. TakenFitsIf (cond b (Some (ignores c d ignored.TooBig)) last)) [ true ↦ ignores_fits ignored.TooBig | false ↦ last_fits ] in
      elim (is_disconnected view.state) as (λ b. TakenFitsIf (cond b (Some (ignores c d ignored.PeerGone)) (cond (nat_lt view.size (length payload)) (Some (ignores c d ignored.TooBig)) last)))
      [ true ↦ ignores_fits ignored.PeerGone | false ↦ small ]

  bytes_fits : (f : Frame) (payload : List ℕ) (o : Option BridgeEntry) → TakenFitsIf (take_bytes c d f payload o)
  bytes_fits f payload None = ignores_fits ignored.NoEntry
  bytes_fits f payload (Some entry) =
      elim entry.answered as (λ b. TakenFitsIf (cond b (take_viewed c d f payload entry (ns_view c entry.end)) (Some (ignores c d ignored.NotAnswered)))) [
        | true ↦ viewed_fits f payload entry (ns_view c entry.end)
        | false ↦ ignores_fits ignored.NotAnswered
      ]

  parsed_fits : (payload : List ℕ) (r : Result Frame FrameFault) → TakenFitsIf (take_parsed c d payload r)
  parsed_fits payload (Err fault) = ignores_fits (fault_cause fault)
  parsed_fits payload (Ok f) =
      elim (f.dst == control_address) as (λ b. TakenFitsIf (cond b (take_control c d f.src (control_in payload)) (take_bytes c d f payload (entry_between f.dst f.src d.entries)))) [
        | true ↦ control_fits f.src (control_in payload)
        | false ↦ bytes_fits f payload (entry_between f.dst f.src d.entries)
      ]

  frame_fits : (bytes : List ℕ) → TakenFitsIf (take_frame c d bytes)
  unfolding take_frame
  frame_fits bytes = parsed_fits (drop 16 bytes) (frame_in bytes)

  module _ (memory : List ℕ) where
    abbrev state : State
    state = bare c memory d

    broke_fits : (reply : DeviceReply) → FitsLeft (Some (broke state reply))
    broke_fits reply = record { fits_to = sound.to_normal; fits_from = sound.from_normal; fits_named = tt }

    taken_fits : (found : Chain) (bytes : List ℕ) (o : Option Taken) → TakenFitsIf o → FitsLeft (option_map (taken_by_device state found bytes) o)
    taken_fits found bytes None fits = tt
    taken_fits found bytes (Some taken) fits = record {
      fits_to = subst (IsQueueOf 0) (sym fits.taken_to) sound.to_normal;
      fits_from = queue_on 1 d.from_normal sound.from_normal;
      fits_named = fits.taken_named;
    }

    next_fits : (r : Result (Option Chain) RingFault) → FitsLeft (take_next state r)
    next_fits (Err fault) = broke_fits (ring_broke 1 fault)
    next_fits (Ok None) = tt
    next_fits (Ok (Some found)) = taken_fits found (bytes_at found.parts memory) (take_frame c d (bytes_at found.parts memory)) (frame_fits (bytes_at found.parts memory))

    take_fits : FitsLeft (take_step state)
    unfolding take_step
    take_fits = next_fits (chain memory d.from_normal)

    sent_fits : (due : Due) → IsDueOf d.entries (Some due) → (found : Chain) → FitsLeft (Some (sent_by_device state due found))
    sent_fits due is found = record {
      fits_to = queue_on 0 d.to_normal sound.to_normal;
      fits_from = subst (IsQueueOf 1) (sym (due_queue due)) sound.from_normal;
      fits_named = due_names due is;
    }

    send_fits : (due : Due) → IsDueOf d.entries (Some due) → (r : Result (Option Chain) RingFault) → FitsLeft (send_due state due r)
    send_fits due is (Err fault) = broke_fits (ring_broke 0 fault)
    send_fits due is (Ok None) = take_fits
    send_fits due is (Ok (Some found)) =
        elim (nat_lt (room found.parts) (length (due_frame due)))
        as (λ b. FitsLeft (cond b (Some (broke state (device.Broke 0 broken.SmallBuffer found.head))) (Some (sent_by_device state due found))))
        [ true ↦ broke_fits (device.Broke 0 broken.SmallBuffer found.head) | false ↦ sent_fits due is found ]

    due_fits : (o : Option Due) → IsDueOf d.entries o → FitsLeft (step_by_due state o)
    due_fits None is = take_fits
    due_fits (Some due) is = send_fits due is (chain memory d.to_normal)

    step_fits : FitsLeft (device_step state)
    unfolding device_step
    step_fits =
        elim (not d.broken) as (λ b. FitsLeft (cond b (step_by_due state (due_of c d)) None)) [ true ↦ due_fits (due_of c d) (due_of_entries c d) | false ↦ tt ]

-- and what is named was given
abbrev GivenLeft : Option DeviceStep → Type 0
GivenLeft None = Unit {0}
GivenLeft (Some done) = Given done.state.core

given_left : (s : State) → Given s.core → (o : Option DeviceStep) → StepWalks None s.core (option_map device_stepped o) → GivenLeft o
given_left s names None walks = tt
given_left s names (Some done) walks = walk_names s.core done.state.core walks names

device_given : (s : State) → Given s.core → GivenLeft (device_step s)
unfolding step
device_given s names = given_left s names (device_step s) (step_walks s event.Device)

abbrev SoundLeft : Option Left → Type 0
SoundLeft None = Unit {0}
SoundLeft (Some l) = IsSound l.core l.device

both_left : (o : Option DeviceStep) → FitsLeft o → GivenLeft o → SoundLeft (option_map left o)
both_left None fits names = tt
both_left (Some done) fits names = record {
  to_normal = fits.fits_to;
  from_normal = fits.fits_from;
  given = together done.state.core names;
  named = fits.fits_named;
}

sound_left : (c : CoreState) (memory : List ℕ) (d : Device) → IsSound c d → SoundLeft (device_left c memory d)
unfolding device_left
sound_left c memory d sound = both_left (device_step (bare c memory d)) (step_fits c d sound memory) (device_given (bare c memory d) (apart c sound.given))

sound_told : (d : Device) (told : Option DeviceOutcome) (s t : State) (memory after : List ℕ) (e : Device) → IsSound s.core d → Stepped told s t memory after d e → IsSound t.core e
sound_told d None s t memory after e sound done =
    subst (λ (x : Device). IsSound t.core x) (sym done.stays.2) (subst (λ (x : State). IsSound x.core d) (sym done.stays.0) sound)
sound_told d (Some told) s t memory after e sound done = subst SoundLeft (sym done.left_is) (sound_left s.core memory d sound)

-- a step that may be refused
pub sound_stepped : (r : Result (Option DeviceOutcome) NoMemory) (s t : State) (memory after : List ℕ) (d e : Device) → IsSound s.core d
    → IfOk r (λ told. Stepped told s t memory after d e) → OnErr r (t ≡ s) → OnErr r (e ≡ d) → IsSound t.core e
sound_stepped (Ok told) s t memory after d e sound done state device = sound_told d told s t memory after e sound done
sound_stepped (Err why) s t memory after d e sound done state device =
    subst (λ (x : Device). IsSound t.core x) (sym device) (subst (λ (x : State). IsSound x.core d) (sym state) sound)

-- A core's own steps.

sound_in : (s t : State) (d : Device) → IsSound s.core d → NamesAreGiven t.core → t.core.bridged ≡ s.core.bridged → IsSound t.core d
sound_in s t d sound given same = record {
  to_normal = sound.to_normal;
  from_normal = sound.from_normal;
  given = given;
  named = subst (λ (b : List ℕ). AreNamed b d.entries) (sym same) sound.named;
}

after_step : (s : State) (ev : Event) (d : Device) (o : Option StepDone) (entry : Entry) → s.world.clients ≡ [] → IsSound s.core d → step s ev ≡ o → option_map (entry_of ev) o ≡ Some entry
    → IsSound (state_or s o).core d
after_step s ev d None entry none sound is came = absurd (cc)
after_step s ev d (Some done) entry none sound is came =
    sound_in s done.state d sound (steps_keep_given s ev done sound.given is) (steps_keep_bridge s ev done none is)

sound_did : (ev : Event) (s t : State) (made remade : ℕ) (entry : Entry) (d : Device) → s.world.clients ≡ [] → IsSound s.core d → Did ev s t made remade entry → IsSound t.core d
sound_did ev s t made remade entry d none sound did =
    subst (λ (x : State). IsSound x.core d) (sym did.state_is) (after_step s ev d (step s ev) entry none sound refl did.entry_is)

pub sound_tried : (ev : Event) (s t : State) (made remade : ℕ) (r : Result Entry StepRefused) (d : Device) → s.world.clients ≡ [] → IsSound s.core d
    → IfOk r (λ entry. Did ev s t made remade entry) → IfErr r (λ refused. Refused ev s t made remade refused) → IsSound t.core d
sound_tried ev s t made remade (Ok entry) d none sound done refused = sound_did ev s t made remade entry d none sound done
sound_tried ev s t made remade (Err why) d none sound done refused = subst (λ (x : State). IsSound x.core d) (sym refused.state_is) sound

pub sound_idled : (clock : Option ℕ) (s t : State) (made remade : ℕ) (d : Device) → IsSound s.core d → Idled clock s t made remade → IsSound t.core d
sound_idled clock s t made remade d sound idled =
    let core : t.core ≡ sweep (core_idle clock s.core) = ap (λ (x : State). x.core) idled.state_is in
    sound_in s t d sound (subst NamesAreGiven (sym core) (idling_given s.core clock sound.given)) (ap (λ (x : CoreState). x.bridged) core ∙ idle_names s.core clock)
