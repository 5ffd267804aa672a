-- What the device makes of frames, one after the other, without rings: each cause for which one is ignored, a request that
-- is refused, bytes that are taken, and bytes that are held.
use Rattle.std.specs.Prelude.{◌≡◌, ℕ, true, false, List, [], ◌∷◌, ◌++◌, Option, Some, None, refl, codes, replicate, map}
use Rattle.kernel_values.specs.declared.call.Call.{Call}
use Rattle.kernel_values.specs.declared.call.Call.TheVariants as call
use Rattle.kernel_values.specs.declared.reply.DeviceReply.{DeviceReply}
use Rattle.kernel_values.specs.declared.reply.DeviceReply.TheVariants as device
use Rattle.kernel_values.specs.declared.reply.IgnoreCause.TheVariants as ignored
use Rattle.kernel_values.specs.declared.state.CoreState.{CoreState}
use Rattle.kernel_values.specs.declared.scene.App.{App}
use Rattle.kernel_types.specs.OnLiterals.{kernel_on_literals}
use Rattle.kernel_types.specs.Opening.{opening_core}
use Rattle.kernel_types.specs.Outcome.{Outcome}
use Rattle.kernel_types.specs.CoreStep.{core_begin}
use Rattle.tipc_proto.specs.Controls.{message}
use Rattle.kernel_values.specs.declared.world.BridgeEntry.{BridgeEntry}
use Rattle.kernel_values.specs.declared.world.Refusal.{Refusal}
use Rattle.kernel_values.specs.declared.world.Device.{Device}
use Rattle.kernel_types.specs.Device.{Due, Taken, take_frame, due_of, due_reply, due_device, due_change}
use Rattle.kernel_types.specs.Opening.{opening_device}
use Rattle.kernel_types.specs.OnLiterals.{world_on_literals}
use Rattle.kernel_types.specs.Sending.{frame, request_frame, leave_frame}

-- the core and the device, and the other side's part of a story: a call of the one thread, a frame that comes in, or a
-- frame that is due and goes out

pub record Sides : Type 0 where
  pub core : CoreState
  pub device : Device

pub data Move : Type 0 where
  calls : Call → Move
  comes : List ℕ → Move
  goes : Move

abbrev after_call : Sides → Option Outcome → Sides
after_call sides None = sides
after_call sides (Some outcome) = record sides { core = outcome.core }

abbrev after_frame : Sides → Option Taken → Sides
after_frame sides None = sides
after_frame sides (Some taken) = record { core = taken.change.core; device = taken.device }

abbrev after_due : Sides → Option Due → Sides
after_due sides None = sides
after_due sides (Some due) = record { core = (due_change due sides.core).core; device = due_device due sides.device }

abbrev after : Sides → Move → Sides
after sides (calls call) = after_call sides (core_begin sides.core 0 1 call)
after sides (comes bytes) = after_frame sides (take_frame sides.core sides.device bytes)
after sides goes = after_due sides (due_of sides.core sides.device)

abbrev taken_reply : Option Taken → Option DeviceReply
taken_reply None = None
taken_reply (Some taken) = Some taken.reply

abbrev reply_if_due : Option Due → Option DeviceReply
reply_if_due None = None
reply_if_due (Some due) = Some (due_reply due)

-- what the device says along a story; nothing where a frame is held, and where nothing is due
abbrev says : Sides → List Move → List (Option DeviceReply)
says sides [] = []
says sides (calls call ∷ moves) = says (after sides (calls call)) moves
says sides (comes bytes ∷ moves) = taken_reply (take_frame sides.core sides.device bytes) ∷ says (after sides (comes bytes)) moves
says sides (goes ∷ moves) = reply_if_due (due_of sides.core sides.device) ∷ says (after sides goes) moves

abbrev ends : Sides → List Move → Sides
ends sides [] = sides
ends sides (move ∷ moves) = ends (after sides move) moves

-- one application with one thread, which publishes the port `e` of one slot of 16 bytes for the normal world
abbrev server : App
server = record { name = codes "s"; manifest = record { uuid = 1; restart = false; deferred = false; ports = [] }; threads = [] ∷ [] }

abbrev opened : Sides
opened = record { core = opening_core (server ∷ []); device = opening_device 16 }

abbrev publishes : Move
publishes = calls (call.PortCreate (codes "e") 1 16 (record { 0 = 2 }))

abbrev bytes_from : ℕ → ℕ → ℕ → Move
bytes_from src dst len = comes (frame src dst (replicate len 7))

abbrev faulty : List Move
faulty =
    comes (replicate 15 0) ∷
    comes (replicate 17 0) ∷
    comes (frame 1024 53 (1 ∷ 0 ∷ 0 ∷ [])) ∷
    comes (frame 1024 53 (message 9 [])) ∷
    comes (frame 1024 53 (message 5 (1 ∷ []))) ∷
    comes (frame 1024 53 (message 3 (replicate 256 0))) ∷
    comes (frame 1024 53 (message 1 [])) ∷
    comes (leave_frame 1024 1000) ∷
    bytes_from 1024 1000 1 ∷ []

faults : says opened faulty ≡
    Some (device.Ignored ignored.Short) ∷
    Some (device.Ignored ignored.Length) ∷
    Some (device.Ignored ignored.Short) ∷
    Some (device.Ignored ignored.UnknownType) ∷
    Some (device.Ignored ignored.BodyLength) ∷
    Some (device.Ignored ignored.Name) ∷
    Some (device.Ignored ignored.NotServed) ∷
    Some (device.Ignored ignored.NoEntry) ∷
    Some (device.Ignored ignored.NoEntry) ∷ []
unfolding kernel_on_literals world_on_literals
faults = refl

-- one address asks twice, another for no port
abbrev asking : List Move
asking =
    publishes ∷
    comes (request_frame 1024 (codes "e")) ∷
    comes (request_frame 1024 (codes "e")) ∷
    comes (request_frame 1025 (codes "nosuch")) ∷
    bytes_from 1024 1000 1 ∷
    bytes_from 1025 1000 1 ∷ []

asked : says opened asking ≡
    Some (device.TookReq 1024 (codes "e")) ∷
    Some (device.TookReq 1024 (codes "e")) ∷
    Some (device.TookReq 1025 (codes "nosuch")) ∷
    Some (device.Ignored ignored.NotAnswered) ∷
    Some (device.Ignored ignored.NoEntry) ∷ []
unfolding kernel_on_literals world_on_literals
asked = refl

kept : (ends opened asking).device ≡ record (opening_device 16) {
  entries = (record { secure = 1000; normal = 1024; end = 1; answered = false }) ∷ [];
  refusals = (record { target = 1024; status = 5 }) ∷ (record { target = 1025; status = 3 }) ∷ [];
}
unfolding kernel_on_literals world_on_literals
kept = refl

-- the refusals go out first; then the port's owner accepts, is sent one message, and has no slot for the next one until
-- it retires the first; it leaves, and what comes then has no peer
abbrev talking : List Move
talking = asking ++
    goes ∷ goes ∷ goes ∷ goes ∷
    calls (call.Accept 0) ∷
    goes ∷
    bytes_from 1024 1000 17 ∷
    bytes_from 1024 1000 16 ∷
    bytes_from 1024 1000 1 ∷
    calls (call.Get 1) ∷
    bytes_from 1024 1000 1 ∷
    calls (call.Send 1 (5 ∷ 6 ∷ []) []) ∷
    goes ∷
    calls (call.Put 1 1) ∷
    bytes_from 1024 1000 1 ∷
    calls (call.Send 1 (5 ∷ []) []) ∷
    calls (call.Close 1) ∷
    bytes_from 1024 1000 1 ∷
    goes ∷ goes ∷ goes ∷
    bytes_from 1024 1000 1 ∷ []

talked : says opened talking ≡ says opened asking ++
    Some device.SentOnline ∷
    Some (device.SentRsp 1024 5 0 0 0) ∷
    Some (device.SentRsp 1025 3 0 0 0) ∷
    None ∷
    Some (device.SentRsp 1024 0 1000 16 1) ∷
    Some (device.Ignored ignored.TooBig) ∷
    Some (device.TookMessage 1024 1000 16) ∷
    None ∷
    None ∷
    Some (device.SentMessage 1000 1024 2) ∷
    Some (device.TookMessage 1024 1000 1) ∷
    Some (device.Ignored ignored.PeerGone) ∷
    Some (device.SentMessage 1000 1024 1) ∷
    Some (device.SentDisc 1024) ∷
    None ∷
    Some (device.Ignored ignored.NoEntry) ∷ []
unfolding kernel_on_literals world_on_literals
talked = refl

-- in the end the port alone is there, and the bridge names nothing
left : map (λ object. object.id) (ends opened talking).core.objects ≡ 0 ∷ []
unfolding kernel_on_literals world_on_literals
left = refl

unnamed : (ends opened talking).core.bridged ≡ []
unfolding kernel_on_literals world_on_literals
unnamed = refl

-- a request is held behind 64 refusals; with 64 entries one is refused
abbrev refusal : Refusal
refusal = record { target = 1; status = 3 }

abbrev entry : BridgeEntry
entry = record { secure = 1000; normal = 7; end = 9; answered = true }

abbrev behind : List Refusal → List BridgeEntry → Sides
behind refusals entries = record opened { device = record (opening_device 16) { refusals = refusals; entries = entries } }

held : says (behind (replicate 64 refusal) []) (comes (request_frame 1024 (codes "e")) ∷ []) ≡ None ∷ []
unfolding kernel_on_literals world_on_literals
held = refl

queued : says (behind (replicate 63 refusal) []) (comes (request_frame 1024 (codes "e")) ∷ []) ≡ Some (device.TookReq 1024 (codes "e")) ∷ []
unfolding kernel_on_literals world_on_literals
queued = refl

without_room : (ends (behind [] (replicate 64 entry)) (comes (request_frame 1024 (codes "e")) ∷ [])).device.refusals
    ≡ (record { target = 1024; status = 6 }) ∷ []
unfolding kernel_on_literals world_on_literals
without_room = refl
