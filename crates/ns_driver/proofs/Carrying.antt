-- From what a call is planned to be on the driver alone to what it is in its world.
use Rattle.std.proofs.Common.{◌≡◌, ◌≢◌, ℕ, ◌==◌, true, false, cond, List, [], ◌∷◌, length, drop, Option, Some, None, Result, Ok, Err, refl, sym, ◌∙◌, ap, subst, arith}
use Rattle.std.specs.Prelude.{slice_get}
use Rattle.std.specs.List.{fold}
use Rattle.std.specs.Option.{option_map}
use Rattle.std.proofs.lemmas.List.{length-set}
use Rattle.kernel_values.specs.declared.call.Call.{Call}
use Rattle.kernel_values.specs.declared.call.Call.TheVariants as call
use Rattle.kernel_values.specs.declared.call.CallKind.{CallKind}
use Rattle.kernel_values.specs.declared.call.CallKind.TheVariants as kind
use Rattle.kernel_values.specs.Calls.{kind_of, is_kind_in_client, is_kind_of_driver}
use Rattle.kernel_values.specs.declared.reply.Answer.{Answer}
use Rattle.kernel_types.specs.Objects.{set_if}
use Rattle.tipc_proto.specs.declared.frames.Frame.{Frame}
use Rattle.tipc_proto.specs.declared.faults.FrameFault.{FrameFault}
use Rattle.tipc_proto.specs.declared.controls.Control.{Control}
use Rattle.tipc_proto.specs.declared.controls.Control.TheVariants.{GoOnline, GoOffline, ConnReq, ConnRsp, DiscReq}
use Rattle.tipc_proto.specs.Frames.{frame_in}
use Rattle.tipc_proto.specs.Controls.{control_in}
use Rattle.kernel_values.specs.declared.world.ClientWaitOn.{ClientWaitOn}
use Rattle.kernel_values.specs.declared.world.Connection.{Connection}
use Rattle.kernel_values.specs.declared.world.Driver.{Driver}
use Rattle.kernel_values.specs.declared.world.World.{World}
use Rattle.kernel_types.specs.Clients.{Acted, ns_act}
use Rattle.kernel_types.specs.Drains.{connection_changed, connection_place, status_changed, answered_status, left_status, received_by, deliver_control, deliver_frame, delivered, drained, to_normal_drained, from_normal_drained, drained_frames}
use Rattle.kernel_types.specs.Sending.{control_address}
use Rattle.ns_driver.specs.Value.{IsSound}
use Rattle.ns_driver.specs.Acts.{DriverOutcome, told, bare, acted, MayAct, MayFollow, HasRoom}
use Rattle.ns_driver.specs.Plans.{Outcome, outcome, outcome_of, planned, alone, told_of, memory_after}
use Rattle.ns_driver.proofs.Anywhere.{connects, sends, receives, closes, resumes}

-- ---- what is told

pub told_there : (client : ℕ) (before : Option ClientWaitOn) (call : Option Call) (w : World)
    → option_map told (planned client before call w) ≡ option_map (told_of w) (option_map outcome_of (planned client before call (alone w.driver)))
unfolding planned
told_there client before (Some (call.NsConnect path)) w = ap (λ (a : Acted). let o : Option DriverOutcome = Some (told a) in o) (connects 0 client path w).same
told_there client before (Some (call.NsSend conn bytes)) w = ap (λ (a : Acted). let o : Option DriverOutcome = Some (told a) in o) (sends 0 client conn bytes w).same
told_there client before (Some (call.NsRecv conn timeout)) w = ap (λ (a : Acted). let o : Option DriverOutcome = Some (told a) in o) (receives 0 client conn timeout w).same
told_there client before (Some (call.NsClose conn)) w = ap (λ (a : Acted). let o : Option DriverOutcome = Some (told a) in o) (closes 0 client conn w).same
told_there client before (Some other) w = refl
told_there client None None w = refl
told_there client (Some on) None w = ap (λ (a : Acted). let o : Option DriverOutcome = Some (told a) in o) (resumes on w).same

abbrev SoundIn : Option Outcome → Type 0
SoundIn None = Unit {0}
SoundIn (Some o) = IsSound o.driver

sound_there : (client : ℕ) (before : Option ClientWaitOn) (call : Option Call) (d : Driver) → IsSound d → SoundIn (option_map outcome_of (planned client before call (alone d)))
unfolding planned
sound_there client before (Some (call.NsConnect path)) d h = (connects 0 client path (alone d)).sound h
sound_there client before (Some (call.NsSend conn bytes)) d h = (sends 0 client conn bytes (alone d)).sound h
sound_there client before (Some (call.NsRecv conn timeout)) d h = (receives 0 client conn timeout (alone d)).sound h
sound_there client before (Some (call.NsClose conn)) d h = (closes 0 client conn (alone d)).sound h
sound_there client before (Some other) d h = tt
sound_there client None None d h = tt
sound_there client (Some on) None d h = (resumes on (alone d)).sound h

pub sound_after : (client : ℕ) (before : Option ClientWaitOn) (call : Option Call) (d after : Driver) (answer : Answer) (frame : Option (List ℕ)) → IsSound d
    → Some (outcome answer frame after) ≡ option_map outcome_of (planned client before call (alone d)) → IsSound after
sound_after client before call d after answer frame h e = subst SoundIn (sym e) (sound_there client before call d h)

-- ---- a call drains first

pub acted_is : (client : ℕ) (before : Option ClientWaitOn) (call : Option Call) (d : Driver) (w : World) → MayFollow d before call
    → acted client before call w ≡ planned client before call (drained w)
unfolding ns_act planned
acted_is client before (Some (call.NsConnect path)) d w h = refl
acted_is client before (Some (call.NsSend conn bytes)) d w h = refl
acted_is client before (Some (call.NsRecv conn timeout)) d w h = refl
acted_is client before (Some (call.NsClose conn)) d w h = refl
acted_is client before (Some other) d w h = let no : false ≡ true = h.0 in absurd (cc)
acted_is client None None d w h = refl
acted_is client (Some on) None d w h = refl

-- a call of a client that is not past the driver is one that drains
pub may_follow : (d : Driver) (before : Option ClientWaitOn) (call : Call) → MayAct d before (Some call) → kind_of call ≢ kind.Direct → MayFollow d before (Some call)
may_follow d before call h not_direct =
    let go : (k : CallKind) → kind_of call ≡ k → MayFollow d before (Some call) = λ k. elim k as (λ k. kind_of call ≡ k → MayFollow d before (Some call)) [
      | kind.Thread ↦ (λ is. let no : is_kind_in_client kind.Thread ≡ true = cc in absurd (cc))
      | kind.Finish ↦ (λ is. let no : is_kind_in_client kind.Finish ≡ true = cc in absurd (cc))
      | kind.Driver ↦ (λ is. (ap is_kind_of_driver is, h.1))
      | kind.Direct ↦ (λ is. absurd (not_direct is))
    ] in
    go (kind_of call) refl

-- ---- a drain keeps the number of connections

changed_long : (f : Connection → Connection) (cs : List Connection) (t : ℕ) → length (connection_changed f cs t) ≡ length cs
changed_long f cs t =
    elim (option_map f (slice_get cs (connection_place cs t))) as (λ o. length (set_if cs (connection_place cs t) o) ≡ length cs) [ None ↦ refl | Some c ↦ length-set cs (connection_place cs t) c ]

control_long : (cs : List Connection) (r : Result Control FrameFault) → length (deliver_control cs r) ≡ length cs
control_long cs (Ok (ConnRsp target status remote size count)) = changed_long (status_changed (answered_status status remote size)) cs target
control_long cs (Ok (DiscReq target)) = changed_long (status_changed left_status) cs target
control_long cs (Ok GoOnline) = refl
control_long cs (Ok GoOffline) = refl
control_long cs (Ok (ConnReq path)) = refl
control_long cs (Err fault) = refl

frame_long : (cs : List Connection) (payload : List ℕ) (r : Result Frame FrameFault) → length (deliver_frame cs payload r) ≡ length cs
frame_long cs payload (Ok f) =
    elim (f.dst == control_address) as (λ b. length (cond b (deliver_control cs (control_in payload)) (connection_changed (received_by payload) cs f.dst)) ≡ length cs)
    [ true ↦ control_long cs (control_in payload) | false ↦ changed_long (received_by payload) cs f.dst ]
frame_long cs payload (Err fault) = refl

delivered_long : (cs : List Connection) (bytes : List ℕ) → length (delivered cs bytes) ≡ length cs
unfolding delivered
delivered_long cs bytes = frame_long cs (drop 16 bytes) (frame_in bytes)

all_delivered_long : (cs : List Connection) (frames : List (List ℕ)) → length (fold delivered cs frames) ≡ length cs
all_delivered_long cs [] = refl
all_delivered_long cs (bytes ∷ frames) = all_delivered_long (delivered cs bytes) frames ∙ delivered_long cs bytes

pub drained_long : (w : World) → length (drained w).driver.connections ≡ length w.driver.connections
unfolding to_normal_drained from_normal_drained
drained_long w = all_delivered_long w.driver.connections (drained_frames w)

drained_size : (w : World) → (drained w).driver.size ≡ w.driver.size
unfolding to_normal_drained from_normal_drained
drained_size w = refl

room_after : (d after : Driver) (call : Call) → length after.connections ≡ length d.connections → HasRoom d call → HasRoom after call
room_after d after (call.NsConnect path) e h = omega arith
room_after d after other e h = h

may_follow_after : (d after : Driver) (before : Option ClientWaitOn) (call : Option Call) → length after.connections ≡ length d.connections → MayFollow d before call → MayFollow after before call
may_follow_after d after before (Some call) e h = (h.0, room_after d after call e h.1)
may_follow_after d after before None e h = h

pub may_follow_drained : (memory : List ℕ) (d after : Driver) (before : Option ClientWaitOn) (call : Option Call) → after ≡ (drained (bare memory d)).driver
    → MayFollow d before call → MayFollow after before call
may_follow_drained memory d after before call is h =
    may_follow_after d after before call (ap (λ (x : Driver). length x.connections) is ∙ drained_long (bare memory d)) h

-- ---- the whole

pub act_told : (memory now : List ℕ) (d found after : Driver) (client : ℕ) (before : Option ClientWaitOn) (call : Option Call) (answer : Answer) (frame : Option (List ℕ)) → MayFollow d before call
    → found ≡ (drained (bare memory d)).driver
    → Some (outcome answer frame after) ≡ option_map outcome_of (planned client before call (alone found))
    → now ≡ memory_after d.size found.free frame (drained (bare memory d)).memory
    → option_map told (acted client before call (bare memory d)) ≡ Some (record { answer = answer; memory = now; driver = after })
act_told memory now d found after client before call answer frame lawful found-is plan-is now-is =
    let w = drained (bare memory d) in
    let T : List ℕ → Option DriverOutcome = λ m. Some (record { answer = answer; memory = m; driver = after }) in
    let plan : option_map outcome_of (planned client before call (alone w.driver)) ≡ Some (outcome answer frame after) =
    ap (λ (x : Driver). option_map outcome_of (planned client before call (alone x))) (sym found-is) ∙ sym plan-is in
    let sizes : d.size ≡ w.driver.size = sym (drained_size (bare memory d)) in
    ap (option_map told) (acted_is client before call d (bare memory d) lawful)
    ∙ told_there client before call w
    ∙ ap (option_map (told_of w)) plan
    ∙ ap (λ n. T (memory_after n w.driver.free frame w.memory)) (sym sizes)
    ∙ ap (λ (x : Driver). T (memory_after d.size x.free frame w.memory)) (sym found-is)
    ∙ ap T (sym now-is)
