-- What becomes of the next frame from the normal world, before anything is done for it.
use Rattle.std.specs.Prelude.{ℕ, ◌==◌, nat_le, nat_lt, List, length, drop, Option, Some, None, Result, Ok, Err, if◌then◌else◌}
use Rattle.kernel_values.specs.declared.reply.DeviceReply.TheVariants as device
use Rattle.kernel_values.specs.declared.reply.IgnoreCause.TheVariants as ignored
use Rattle.kernel_values.specs.declared.state.CoreState.{CoreState}
use Rattle.kernel_values.specs.declared.state.State.{State}
use Rattle.kernel_values.specs.declared.world.BridgeEntry.{BridgeEntry}
use Rattle.kernel_values.specs.declared.world.Device.{Device}
use Rattle.kernel_types.specs.Bridge.{ns_push, ns_view}
use Rattle.kernel_types.specs.Bridging.{CanPush, IsBridged}
use Rattle.kernel_types.specs.declared.bridge.EndView.{EndView}
use Rattle.kernel_types.specs.Device.{Taken, entry_between, fault_cause, ignores, leave_taken, refusal_limit, request_taken}
use Rattle.kernel_types.specs.Events.{is_disconnected}
use Rattle.kernel_types.specs.Sending.{control_address}
use Rattle.tipc_proto.specs.declared.controls.Control.{Control}
use Rattle.tipc_proto.specs.declared.controls.Control.TheVariants.{ConnReq, DiscReq}
use Rattle.tipc_proto.specs.declared.faults.FrameFault.{FrameFault}
use Rattle.tipc_proto.specs.declared.frames.Frame.{Frame}
use Rattle.tipc_proto.specs.Controls.{control_in}
use Rattle.tipc_proto.specs.Frames.{frame_in}
use Rattle.ns_device.specs.declared.taking.Taking.{Taking}
use Rattle.ns_device.specs.declared.taking.Taking.TheVariants as taking

abbrev pub request_taking : Device → ℕ → List ℕ → Taking
request_taking d src path = (if nat_le refusal_limit (length d.refusals) then taking.Held else taking.Requesting src path)

abbrev pub leave_taking : ℕ → Option BridgeEntry → Taking
leave_taking src None = taking.Ignoring ignored.NoEntry
leave_taking src (Some entry) = taking.Leaving src entry

abbrev pub control_taking : Device → ℕ → Result Control FrameFault → Taking
control_taking d src (Err fault) = taking.Ignoring (fault_cause fault)
control_taking d src (Ok (ConnReq path)) = request_taking d src path
control_taking d src (Ok (DiscReq target)) = leave_taking src (entry_between target src d.entries)
control_taking d src (Ok other) = taking.Ignoring ignored.NotServed

abbrev pub viewed_taking : Frame → ℕ → BridgeEntry → EndView → Taking
viewed_taking f len entry view =
    (if is_disconnected view.state then taking.Ignoring ignored.PeerGone
    else if nat_lt view.size len then taking.Ignoring ignored.TooBig
    else if view.peer_full then taking.Held
    else taking.Carrying f.src f.dst entry)

abbrev pub bytes_taking : CoreState → Frame → ℕ → Option BridgeEntry → Taking
bytes_taking c f len None = taking.Ignoring ignored.NoEntry
bytes_taking c f len (Some entry) = (if entry.answered then viewed_taking f len entry (ns_view c entry.end) else taking.Ignoring ignored.NotAnswered)

abbrev pub parsed_taking : CoreState → Device → List ℕ → Result Frame FrameFault → Taking
parsed_taking c d payload (Err fault) = taking.Ignoring (fault_cause fault)
parsed_taking c d payload (Ok f) =
    (if f.dst == control_address then control_taking d f.src (control_in payload)
    else bytes_taking c f (length payload) (entry_between f.dst f.src d.entries))

unfoldable pub frame_taking : CoreState → Device → List ℕ → Taking
frame_taking c d bytes = parsed_taking c d (drop 16 bytes) (frame_in bytes)

-- what it comes to
abbrev pub taken_by : CoreState → Device → List ℕ → Taking → Option Taken
taken_by c d payload taking.Held = None
taken_by c d payload (taking.Ignoring cause) = Some (ignores c d cause)
taken_by c d payload (taking.Requesting src path) = Some (request_taken c d src path)
taken_by c d payload (taking.Leaving src entry) = Some (leave_taken c d src (Some entry))
taken_by c d payload (taking.Carrying src dst entry) =
    Some (record { reply = device.TookMessage src dst (length payload); change = ns_push c entry.end payload; device = d })

-- what the calls of the core ask for: an end that is named, and a free slot at its peer
abbrev pub IsTakeable : State → List ℕ → Taking → Type 0
IsTakeable s payload (taking.Leaving src entry) = IsBridged entry.end s
IsTakeable s payload (taking.Carrying src dst entry) = IsBridged entry.end s × CanPush entry.end payload s
IsTakeable s payload other = Unit {0}
