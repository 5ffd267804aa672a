-- What is due fits in a buffer, as messages are within their limits; and no step of the device but those on its queues changes them.
use Rattle.std.proofs.Common.{◌≡◌, ℕ, zero, suc, ◌≤◌, Bool, true, false, cond, ltb, leb, eqb, List, [], ◌∷◌, Option, Some, None, Result, Ok, Err, length, drop, refl, arith}
use Rattle.std.specs.Prelude.{slice_get}
use Rattle.std.specs.List.{AllByRecursion, cons_option, filter_map, find, list_any}
use Rattle.std.proofs.lemmas.List.Elements.{recursion_from_All}
use Rattle.kernel_values.specs.declared.errno.Errno.{Errno}
use Rattle.kernel_values.specs.declared.errno.Errno.TheVariants as errno
use Rattle.kernel_values.specs.declared.reply.IgnoreCause.TheVariants as ignored
use Rattle.kernel_values.specs.declared.state.Body.{Body}
use Rattle.kernel_values.specs.declared.state.Body.TheVariants as body
use Rattle.kernel_values.specs.declared.state.CoreState.{CoreState}
use Rattle.kernel_values.specs.declared.state.Message.{Message}
use Rattle.kernel_values.specs.declared.state.Object.{Object}
use Rattle.kernel_values.specs.declared.world.BridgeEntry.{BridgeEntry}
use Rattle.kernel_values.specs.declared.world.Device.{Device}
use Rattle.kernel_values.specs.declared.world.Refusal.{Refusal}
use Rattle.kernel_types.specs.declared.bridge.EndView.{EndView}
use Rattle.kernel_types.specs.Bridge.{bytes_of, peek_in, ns_connect, ns_peek, ns_view}
use Rattle.kernel_types.specs.Device.{Due, going_online, refusing, answering, denying, sending, leaving, unanswered_due, answered_due, entry_due, queued_due, due_of, due_frame, due_device, Taken, ignores, entry_between, entry_limit, refusal_limit, request_refused, request_connected, request_taken, leave_taken, take_control, bytes_taken, take_viewed, take_bytes, take_parsed, take_frame}
use Rattle.kernel_types.specs.Errors.{number_of}
use Rattle.kernel_types.specs.Events.{is_disconnected, is_filled}
use Rattle.kernel_types.specs.GuestMemory.{buffer_size}
use Rattle.kernel_types.specs.Limits.{IsBodyWithin, IsMessageWithin}
use Rattle.kernel_types.specs.Objects.{as_end, end_in, place_of}
use Rattle.kernel_types.specs.Sending.{control_address}
use Rattle.tipc_proto.specs.declared.controls.Control.{Control}
use Rattle.tipc_proto.specs.declared.controls.Control.TheVariants.{ConnReq, DiscReq}
use Rattle.tipc_proto.specs.declared.faults.FrameFault.{FrameFault}
use Rattle.tipc_proto.specs.declared.frames.Frame.{Frame}
use Rattle.tipc_proto.specs.Controls.{control_in}
use Rattle.tipc_proto.specs.Frames.{frame_in}
use Rattle.carry_laws.proofs.Lengths.{frame_long, online_short, answer_short, leave_short}

-- Messages.

abbrev IfShort : Option (List ℕ) → Type 0
IfShort None = Unit {0}
IfShort (Some bytes) = length bytes ≤ 4096

found_short : (p : Message → Bool) (messages : List Message) → AllByRecursion IsMessageWithin messages → IfShort (bytes_of (find p messages))
found_short p [] all = tt
found_short p (message ∷ messages) all =
    elim (p message) as (λ b. IfShort (bytes_of (cond b (Some message) (find p messages)))) [ true ↦ all.0.bytes | false ↦ found_short p messages all.1 ]

in_body : (b : Body) → IsBodyWithin b → IfShort (peek_in (end_in b))
in_body (body.Port port) w = tt
in_body (body.Set set) w = tt
in_body (body.Memory memory) w = tt
in_body (body.End end) w = found_short is_filled end.messages (recursion_from_All IsMessageWithin end.messages w.messages)

at_place : (objects : List Object) (at : ℕ) → AllByRecursion (λ object. IsBodyWithin object.body) objects → IfShort (peek_in (as_end (slice_get objects at)))
at_place [] at all = tt
at_place (object ∷ objects) zero all = in_body object.body all.0
at_place (object ∷ objects) (suc at) all = at_place objects at all.1

abbrev pub AreWithin : CoreState → Type 0
AreWithin c = AllByRecursion (λ object. IsBodyWithin object.body) c.objects

peeked_short : (c : CoreState) (end : ℕ) → AreWithin c → IfShort (ns_peek c end)
unfolding ns_peek
peeked_short c end w = at_place c.objects (place_of c.objects end) w

-- What is due.

abbrev pub IfFits : Option Due → Type 0
IfFits None = Unit {0}
IfFits (Some due) = length (due_frame due) ≤ buffer_size

fits_if : (b : Bool) (x y : Option Due) → IfFits x → IfFits y → IfFits (cond b x y)
fits_if true x y one other = one
fits_if false x y one other = other

unanswered_fits : (entry : BridgeEntry) (view : EndView) → IfFits (unanswered_due entry view)
unanswered_fits entry view =
    fits_if view.accepted (Some (answering entry view)) (cond (is_disconnected view.state) (Some (denying entry)) None)
    (answer_short entry.normal 0 entry.secure view.size view.slots)
    (fits_if (is_disconnected view.state) (Some (denying entry)) None (answer_short entry.normal (number_of errno.ChannelClosed) 0 0 0) tt)

answered_fits : (entry : BridgeEntry) (view : EndView) (o : Option (List ℕ)) → IfShort o → IfFits (answered_due entry view o)
answered_fits entry view None w = fits_if (is_disconnected view.state) (Some (leaving entry)) None (leave_short control_address entry.normal) tt
answered_fits entry view (Some bytes) w = omega (arith, frame_long entry.secure entry.normal bytes)

entry_fits : (c : CoreState) (entry : BridgeEntry) → AreWithin c → IfFits (entry_due c entry)
entry_fits c entry w =
    fits_if entry.answered (answered_due entry (ns_view c entry.end) (ns_peek c entry.end)) (unanswered_due entry (ns_view c entry.end))
    (answered_fits entry (ns_view c entry.end) (ns_peek c entry.end) (peeked_short c entry.end w)) (unanswered_fits entry (ns_view c entry.end))

first_fits : (f : BridgeEntry → Option Due) (entries : List BridgeEntry) → ((entry : BridgeEntry) → IfFits (f entry)) → IfFits (slice_get (filter_map f entries) 0)
first_fits f [] all = tt
first_fits f (entry ∷ entries) all =
    elim (f entry) as (λ o. IfFits o → IfFits (slice_get (cons_option o (filter_map f entries)) 0)) [
      | None ↦ (λ none. first_fits f entries all)
      | Some due ↦ (λ one. one)
    ] (all entry)

queued_fits : (c : CoreState) (entries : List BridgeEntry) (refusals : List Refusal) → AreWithin c → IfFits (queued_due c entries refusals)
queued_fits c entries [] w = first_fits (entry_due c) entries (λ entry. entry_fits c entry w)
queued_fits c entries (refusal ∷ refusals) w = answer_short refusal.target refusal.status 0 0 0

pub due_fits : (c : CoreState) (d : Device) → AreWithin c → IfFits (due_of c d)
unfolding due_of
due_fits c d w = fits_if d.online (queued_due c d.entries d.refusals) (Some going_online) (queued_fits c d.entries d.refusals w) online_short

-- The device's queues.

pub record SameQueues (d other : Device) : Type 0 where
  pub to_normal : other.to_normal ≡ d.to_normal
  pub from_normal : other.from_normal ≡ d.from_normal
  pub broken : other.broken ≡ d.broken

same_queues : (d : Device) → SameQueues d d
same_queues d = record { to_normal = refl; from_normal = refl; broken = refl }

pub due_keeps : (due : Due) (d : Device) → SameQueues d (due_device due d)
due_keeps going_online d = record { to_normal = refl; from_normal = refl; broken = refl }
due_keeps (refusing refusal) d = record { to_normal = refl; from_normal = refl; broken = refl }
due_keeps (answering entry view) d = record { to_normal = refl; from_normal = refl; broken = refl }
due_keeps (denying entry) d = record { to_normal = refl; from_normal = refl; broken = refl }
due_keeps (sending entry bytes) d = record { to_normal = refl; from_normal = refl; broken = refl }
due_keeps (leaving entry) d = record { to_normal = refl; from_normal = refl; broken = refl }

-- Taking a frame.

abbrev pub IfTaken : Device → Option Taken → Type 0
IfTaken d None = Unit {0}
IfTaken d (Some taken) = SameQueues d taken.device

taken_if : (d : Device) (b : Bool) (x y : Option Taken) → IfTaken d x → IfTaken d y → IfTaken d (cond b x y)
taken_if d true x y one other = one
taken_if d false x y one other = other

kept_if : (d : Device) (b : Bool) (x y : Taken) → SameQueues d x.device → SameQueues d y.device → SameQueues d (cond b x y).device
kept_if d true x y one other = one
kept_if d false x y one other = other

connected_keeps : (c : CoreState) (d : Device) (src : ℕ) (path : List ℕ) (r : Result CoreState Errno) → SameQueues d (request_connected c d src path r).device
connected_keeps c d src path (Err e) = record { to_normal = refl; from_normal = refl; broken = refl }
connected_keeps c d src path (Ok made) = record { to_normal = refl; from_normal = refl; broken = refl }

request_keeps : (c : CoreState) (d : Device) (src : ℕ) (path : List ℕ) → SameQueues d (request_taken c d src path).device
request_keeps c d src path =
    kept_if d (list_any (λ (entry : BridgeEntry). eqb entry.normal src) d.entries) (request_refused c d src path errno.AlreadyExists)
    (cond (leb entry_limit (length d.entries)) (request_refused c d src path errno.NoResources) (request_connected c d src path (ns_connect c path)))
    (record { to_normal = refl; from_normal = refl; broken = refl })
    (kept_if d (leb entry_limit (length d.entries)) (request_refused c d src path errno.NoResources) (request_connected c d src path (ns_connect c path))
    (record { to_normal = refl; from_normal = refl; broken = refl }) (connected_keeps c d src path (ns_connect c path)))

leave_keeps : (c : CoreState) (d : Device) (src : ℕ) (o : Option BridgeEntry) → SameQueues d (leave_taken c d src o).device
leave_keeps c d src None = same_queues d
leave_keeps c d src (Some entry) = record { to_normal = refl; from_normal = refl; broken = refl }

control_keeps : (c : CoreState) (d : Device) (src : ℕ) (r : Result Control FrameFault) → IfTaken d (take_control c d src r)
control_keeps c d src (Err fault) = same_queues d
control_keeps c d src (Ok (ConnReq path)) =
    taken_if d (leb refusal_limit (length d.refusals)) None (Some (request_taken c d src path)) tt (request_keeps c d src path)
control_keeps c d src (Ok (DiscReq target)) = leave_keeps c d src (entry_between target src d.entries)
control_keeps c d src (Ok other) = same_queues d

viewed_keeps : (c : CoreState) (d : Device) (f : Frame) (payload : List ℕ) (entry : BridgeEntry) (view : EndView) → IfTaken d (take_viewed c d f payload entry view)
viewed_keeps c d f payload entry view =
    let too_big : Option Taken = cond (ltb view.size (length payload)) (Some (ignores c d ignored.TooBig)) (cond view.peer_full None (Some (bytes_taken c d f payload entry))) in
    taken_if d (is_disconnected view.state) (Some (ignores c d ignored.PeerGone)) too_big (same_queues d)
    (taken_if d (ltb view.size (length payload)) (Some (ignores c d ignored.TooBig)) (cond view.peer_full None (Some (bytes_taken c d f payload entry))) (same_queues d)
    (taken_if d view.peer_full None (Some (bytes_taken c d f payload entry)) tt (same_queues d)))

bytes_keep : (c : CoreState) (d : Device) (f : Frame) (payload : List ℕ) (o : Option BridgeEntry) → IfTaken d (take_bytes c d f payload o)
bytes_keep c d f payload None = same_queues d
bytes_keep c d f payload (Some entry) =
    taken_if d entry.answered (take_viewed c d f payload entry (ns_view c entry.end)) (Some (ignores c d ignored.NotAnswered))
    (viewed_keeps c d f payload entry (ns_view c entry.end)) (same_queues d)

parsed_keeps : (c : CoreState) (d : Device) (payload : List ℕ) (r : Result Frame FrameFault) → IfTaken d (take_parsed c d payload r)
parsed_keeps c d payload (Err fault) = same_queues d
parsed_keeps c d payload (Ok f) =
    taken_if d (eqb f.dst control_address) (take_control c d f.src (control_in payload)) (take_bytes c d f payload (entry_between f.dst f.src d.entries))
    (control_keeps c d f.src (control_in payload)) (bytes_keep c d f payload (entry_between f.dst f.src d.entries))

pub frame_keeps : (c : CoreState) (d : Device) (bytes : List ℕ) → IfTaken d (take_frame c d bytes)
unfolding take_frame
frame_keeps c d bytes = parsed_keeps c d (drop 16 bytes) (frame_in bytes)
