-- What becomes of a frame is what the model makes of it, and the core's calls for it may be made.
use Rattle.std.proofs.Common.{◌≡◌, ℕ, ◌==◌, Bool, true, false, cond, List, [], ◌∷◌, length, drop, Option, Some, None, refl, inl, inr, arith, tests}
use Rattle.std.specs.Prelude.{nat_le, nat_lt, Result, Ok, Err}
use Rattle.kernel_values.specs.declared.reply.IgnoreCause.TheVariants as ignored
use Rattle.kernel_values.specs.declared.state.CoreState.{CoreState}
use Rattle.kernel_values.specs.declared.state.State.{State}
use Rattle.kernel_values.specs.declared.world.BridgeEntry.{BridgeEntry}
use Rattle.kernel_values.specs.declared.world.Device.{Device}
use Rattle.kernel_types.specs.Bridge.{ns_view}
use Rattle.kernel_types.specs.Bridging.{IsBridged}
use Rattle.kernel_types.specs.declared.bridge.EndView.{EndView}
use Rattle.kernel_types.specs.Device.{Taken, bytes_taken, entry_between, ignores, is_entry_between, leave_taken, refusal_limit, request_taken, take_bytes, take_control, take_frame, take_parsed, take_viewed}
use Rattle.kernel_types.specs.Events.{is_disconnected}
use Rattle.kernel_types.specs.Sending.{control_address}
use Rattle.tipc_proto.specs.declared.controls.Control.{Control}
use Rattle.tipc_proto.specs.declared.controls.Control.TheVariants.{GoOnline, GoOffline, ConnReq, ConnRsp, DiscReq}
use Rattle.tipc_proto.specs.declared.faults.FrameFault.{FrameFault}
use Rattle.tipc_proto.specs.declared.frames.Frame.{Frame}
use Rattle.tipc_proto.specs.Controls.{control_in}
use Rattle.tipc_proto.specs.Frames.{frame_in}
use Rattle.ns_device.specs.declared.taking.Taking.{Taking}
use Rattle.ns_device.specs.declared.taking.Taking.TheVariants as taking
use Rattle.kernel_laws.proofs.Dues.{IfFound, found_is_among}
use Rattle.ns_device.specs.Named.{AreNamed}
use Rattle.ns_device.specs.Taking.{IsTakeable, bytes_taking, control_taking, frame_taking, leave_taking, parsed_taking, taken_by, viewed_taking}
use Rattle.ns_device.proofs.Names.{among_bridged}

module _ (c : CoreState) (d : Device) (payload : List ℕ) where
  abbrev Same : Option Taken → Taking → Type 0
  Same o t = o ≡ taken_by c d payload t

  same_if : (b : Bool) (o p : Option Taken) (t u : Taking) → Same o t → Same p u → Same (cond b o p) (cond b t u)
  same_if b o p t u f g = elim b as (λ v. Same (cond v o p) (cond v t u)) [ true ↦ f | false ↦ g ]

  control_same : (src : ℕ) (r : Result Control FrameFault) → Same (take_control c d src r) (control_taking d src r)
  control_same src (Err fault) = refl
  control_same src (Ok (ConnReq path)) = same_if (nat_le refusal_limit (length d.refusals)) None (Some (request_taken c d src path)) taking.Held (taking.Requesting src path) refl refl
  control_same src (Ok (DiscReq target)) =
      elim (entry_between target src d.entries) as (λ o. Same (Some (leave_taken c d src o)) (leave_taking src o)) [ None ↦ refl | Some entry ↦ refl ]
  control_same src (Ok GoOnline) = refl
  control_same src (Ok GoOffline) = refl
  control_same src (Ok (ConnRsp target status remote size count)) = refl

  viewed_same : (f : Frame) (entry : BridgeEntry) (view : EndView) → Same (take_viewed c d f payload entry view) (viewed_taking f (length payload) entry view)
  viewed_same f entry view =
      same_if (is_disconnected view.state) (Some (ignores c d ignored.PeerGone)) _ (taking.Ignoring ignored.PeerGone) _ refl
      (same_if (nat_lt view.size (length payload)) (Some (ignores c d ignored.TooBig)) _ (taking.Ignoring ignored.TooBig) _ refl
      (same_if view.peer_full None (Some (bytes_taken c d f payload entry)) taking.Held (taking.Carrying f.src f.dst entry) refl refl))

  bytes_same : (f : Frame) (o : Option BridgeEntry) → Same (take_bytes c d f payload o) (bytes_taking c f (length payload) o)
  bytes_same f None = refl
  bytes_same f (Some entry) =
      same_if entry.answered (take_viewed c d f payload entry (ns_view c entry.end)) (Some (ignores c d ignored.NotAnswered)) _ (taking.Ignoring ignored.NotAnswered)
      (viewed_same f entry (ns_view c entry.end)) refl

  parsed_same : (r : Result Frame FrameFault) → Same (take_parsed c d payload r) (parsed_taking c d payload r)
  parsed_same (Err fault) = refl
  parsed_same (Ok f) =
      same_if (f.dst == control_address) (take_control c d f.src (control_in payload)) (take_bytes c d f payload (entry_between f.dst f.src d.entries)) _ _
      (control_same f.src (control_in payload)) (bytes_same f (entry_between f.dst f.src d.entries))

pub taken_is : (c : CoreState) (d : Device) (bytes : List ℕ) → take_frame c d bytes ≡ taken_by c d (drop 16 bytes) (frame_taking c d bytes)
unfolding take_frame frame_taking
taken_is c d bytes = parsed_same c d (drop 16 bytes) (frame_in bytes)

-- What the core's calls ask for.

module _ (s : State) (d : Device) (payload : List ℕ) (named : AreNamed s.core.bridged d.entries) where
  abbrev Ready : Taking → Type 0
  Ready t = IsTakeable s payload t

  ready_if : (b : Bool) (t u : Taking) → Ready t → Ready u → Ready (cond b t u)
  ready_if b t u f g = elim b as (λ v. Ready (cond v t u)) [ true ↦ f | false ↦ g ]

  leave_ready : (src : ℕ) (o : Option BridgeEntry) → IfFound d.entries o → Ready (leave_taking src o)
  leave_ready src None found = tt
  leave_ready src (Some entry) found = among_bridged s entry d.entries named found

  control_ready : (src : ℕ) (r : Result Control FrameFault) → Ready (control_taking d src r)
  control_ready src (Err fault) = tt
  control_ready src (Ok (ConnReq path)) = ready_if (nat_le refusal_limit (length d.refusals)) taking.Held (taking.Requesting src path) tt tt
  control_ready src (Ok (DiscReq target)) = leave_ready src (entry_between target src d.entries) (found_is_among target src d.entries)
  control_ready src (Ok GoOnline) = tt
  control_ready src (Ok GoOffline) = tt
  control_ready src (Ok (ConnRsp target status remote size count)) = tt

  carried_ready : (f : Frame) (entry : BridgeEntry) → IsBridged entry.end s → nat_lt (ns_view s.core entry.end).size (length payload) ≡ false
      → Ready (cond (ns_view s.core entry.end).peer_full taking.Held (taking.Carrying f.src f.dst entry))
  carried_ready f entry bridged small =
      let view : EndView = ns_view s.core entry.end in
      let P : Bool → Type 0 = λ b. view.peer_full ≡ b → Ready (cond b taking.Held (taking.Carrying f.src f.dst entry)) in
      let free : P false = λ is. (bridged, record { small = grind (arith, tests); free = is }) in
      let go : (b : Bool) → P b = λ b. elim b as (λ v. P v) [ true ↦ (λ is. tt) | false ↦ free ] in
      go view.peer_full refl

  viewed_ready : (f : Frame) (entry : BridgeEntry) → IsBridged entry.end s → Ready (viewed_taking f (length payload) entry (ns_view s.core entry.end))
  viewed_ready f entry bridged =
      let view : EndView = ns_view s.core entry.end in
      let last : Taking = cond view.peer_full taking.Held (taking.Carrying f.src f.dst entry) in
      let P : Bool → Type 0 = λ b. nat_lt view.size (length payload) ≡ b → Ready (cond b (taking.Ignoring ignored.TooBig) last) in
      let go : (b : Bool) → P b = λ b. elim b as (λ v. P v) [ true ↦ (λ is. tt) | false ↦ carried_ready f entry bridged ] in
      ready_if (is_disconnected view.state) (taking.Ignoring ignored.PeerGone) (cond (nat_lt view.size (length payload)) (taking.Ignoring ignored.TooBig) last)
      tt (go (nat_lt view.size (length payload)) refl)

  bytes_ready : (f : Frame) (o : Option BridgeEntry) → IfFound d.entries o → Ready (bytes_taking s.core f (length payload) o)
  bytes_ready f None found = tt
  bytes_ready f (Some entry) found =
      ready_if entry.answered (viewed_taking f (length payload) entry (ns_view s.core entry.end)) (taking.Ignoring ignored.NotAnswered)
      (viewed_ready f entry (among_bridged s entry d.entries named found)) tt

  parsed_ready : (r : Result Frame FrameFault) → Ready (parsed_taking s.core d payload r)
  parsed_ready (Err fault) = tt
  parsed_ready (Ok f) =
      ready_if (f.dst == control_address) (control_taking d f.src (control_in payload)) (bytes_taking s.core f (length payload) (entry_between f.dst f.src d.entries))
      (control_ready f.src (control_in payload)) (bytes_ready f (entry_between f.dst f.src d.entries) (found_is_among f.dst f.src d.entries))

pub takeable : (s : State) (d : Device) (bytes : List ℕ) → AreNamed s.core.bridged d.entries → IsTakeable s (drop 16 bytes) (frame_taking s.core d bytes)
unfolding frame_taking
takeable s d bytes named = parsed_ready s d (drop 16 bytes) named (frame_in bytes)
