-- Each step carries.
use Rattle.std.proofs.Common.{◌≡◌, ℕ, Bool, true, false, cond, eqb, List, [], ◌++◌, Option, Some, None, refl, sym, ap}
use Rattle.std.specs.Prelude.{slice_get}
use Rattle.std.specs.Option.{option_map}
use Rattle.std.proofs.lemmas.List.{append-nil}
use Rattle.kernel_values.specs.declared.call.Call.{Call}
use Rattle.kernel_values.specs.declared.entry.Event.{Event}
use Rattle.kernel_values.specs.declared.entry.Event.TheVariants as event
use Rattle.kernel_values.specs.declared.state.State.{State}
use Rattle.kernel_values.specs.declared.world.ClientActivity.{ClientActivity}
use Rattle.kernel_values.specs.declared.world.ClientActivity.TheVariants as activity
use Rattle.kernel_values.specs.declared.world.ClientState.{ClientState}
use Rattle.kernel_values.specs.declared.world.World.{World}
use Rattle.kernel_types.specs.Carried.{one_if, client_frame, where_done, given_frame, taken_frame, offered_in, drained_in, given_in, taken_in}
use Rattle.kernel_values.specs.Calls.{is_honest_call, drains}
use Rattle.kernel_types.specs.Clients.{Acted, end_of_ns_wait, ns_act}
use Rattle.kernel_types.specs.CoreStep.{core_begin, core_resume}
use Rattle.kernel_types.specs.Device.{DeviceStep, device_step}
use Rattle.kernel_types.specs.Drains.{drained, drained_frames}
use Rattle.kernel_types.specs.Outcome.{Outcome}
use Rattle.kernel_types.specs.Step.{Stepped, in_world, beside_core, client_begin, client_call_as, client_call_of, client_number, client_resume, client_resume_as, client_resume_of, device_stepped, step, idle, idle_lawful, is_thread, next_deadline, runs_again, world_idle}
use Rattle.carry_laws.proofs.Calls.{ActsAs, IfActs, call_acts, wait_ends, with_clients}
use Rattle.carry_laws.proofs.Carrying.{Carrying, drained_carries}
use Rattle.carry_laws.proofs.Dues.{AreWithin}
use Rattle.carry_laws.proofs.Moves.{IfDevice, Moved, device_moves}

-- A client's call, by its present start.

begun_as : (sent gave : List (List ℕ)) (s : State) (client start : ℕ) (asked : Call) (a : ClientActivity) → Carrying s.world sent gave → is_honest_call asked ≡ true
    → ActsAs sent gave (drains asked) (client_call_as s client start asked a)
begun_as sent gave s client start asked (activity.Running running) c honest =
    elim (eqb running start) as (λ b. ActsAs sent gave (drains asked) (cond b (ns_act s.core.clock client asked s.world) None)) [
      | true ↦ call_acts sent gave s.core.clock client asked s.world c honest
      | false ↦ tt
    ]
begun_as sent gave s client start asked (activity.Waiting waiting wait) c honest = tt
begun_as sent gave s client start asked (activity.Ended ended) c honest = tt

begun_of : (sent gave : List (List ℕ)) (s : State) (client start : ℕ) (asked : Call) (o : Option ClientState) → Carrying s.world sent gave
    → ((state : ClientState) → o ≡ Some state → is_honest_call asked ≡ true) → ActsAs sent gave (drains asked) (client_call_of s client start asked o)
begun_of sent gave s client start asked None c honest = tt
begun_of sent gave s client start asked (Some state) c honest = begun_as sent gave s client start asked state.activity c (honest state refl)

begun : (sent gave : List (List ℕ)) (s : State) (client start : ℕ) (asked : Call) → Carrying s.world sent gave
    → ((state : ClientState) → slice_get s.world.clients client ≡ Some state → is_honest_call asked ≡ true) → ActsAs sent gave (drains asked) (client_begin s client start asked)
unfolding client_begin
begun sent gave s client start asked c honest = begun_of sent gave s client start asked (slice_get s.world.clients client) c honest

-- The end of a client's wait.

running_again : (sent gave : List (List ℕ)) (client : ℕ) (o : Option Acted) → IfActs sent [] o → ActsAs sent gave true (option_map (runs_again client) o)
running_again sent gave client None is = tt
running_again sent gave client (Some acted) is = record { carries = with_clients (sent ++ one_if acted.frame) [] acted.world _ is.carries }

ended_as : (sent gave : List (List ℕ)) (s : State) (client start : ℕ) (a : ClientActivity) → Carrying s.world sent gave → ActsAs sent gave true (client_resume_as s client start a)
ended_as sent gave s client start (activity.Running running) c = tt
ended_as sent gave s client start (activity.Ended ended) c = tt
ended_as sent gave s client start (activity.Waiting waiting wait) c =
    elim (eqb waiting start) as (λ b. ActsAs sent gave true (cond b (option_map (runs_again client) (end_of_ns_wait s.core.clock wait (drained s.world))) None)) [
      | true ↦ running_again sent gave client (end_of_ns_wait s.core.clock wait (drained s.world)) (wait_ends sent [] s.core.clock wait (drained s.world) (drained_carries s.world sent gave c).1)
      | false ↦ tt
    ]

ended_of : (sent gave : List (List ℕ)) (s : State) (client start : ℕ) (o : Option ClientState) → Carrying s.world sent gave → ActsAs sent gave true (client_resume_of s client start o)
ended_of sent gave s client start None c = tt
ended_of sent gave s client start (Some state) c = ended_as sent gave s client start state.activity c

ended : (sent gave : List (List ℕ)) (s : State) (client start : ℕ) → Carrying s.world sent gave → ActsAs sent gave true (client_resume s client start)
unfolding client_resume
ended sent gave s client start c = ended_of sent gave s client start (slice_get s.world.clients client) c

-- What a step comes to, where it is lawful.

abbrev pub IfMoved : (sent gave offered taken given read : List (List ℕ)) → Option Stepped → Type 0
IfMoved sent gave offered taken given read None = Unit {0}
IfMoved sent gave offered taken given read (Some r) = Moved sent gave offered taken given read r.state.world

-- nothing is carried
still : (sent gave : List (List ℕ)) (w : World) → Carrying w sent gave → Moved sent gave [] [] [] [] w
still sent gave w c = record { sent_on = sent; gave_on = gave; carries = c; to_device = append-nil sent; to_driver = append-nil gave }

-- a thread's step, or a client's
by_actor : (sent gave : List (List ℕ)) (s : State) (thread drains : Bool) (outcome : Option Outcome) (acted : Option Acted) → Carrying s.world sent gave
    → drained_frames s.world ≡ gave → (thread ≡ false → ActsAs sent gave drains acted)
    → IfMoved sent gave (client_frame (cond thread None acted)) [] [] (cond drains (where_done (drained_frames s.world) (cond thread None acted)) [])
    (cond thread (option_map (in_world s.world) outcome) (option_map (beside_core s.core) acted))
by_actor sent gave s true true None acted c frames acts = tt
by_actor sent gave s true true (Some outcome) acted c frames acts = still sent gave s.world c
by_actor sent gave s true false None acted c frames acts = tt
by_actor sent gave s true false (Some outcome) acted c frames acts = still sent gave s.world c
by_actor sent gave s false drains outcome None c frames acts = tt
by_actor sent gave s false true outcome (Some acted) c frames acts = record {
  sent_on = sent ++ one_if acted.frame;
  gave_on = [];
  carries = (acts refl).carries;
  to_device = refl;
  to_driver = ap (λ fs. fs ++ []) (sym frames);
}
by_actor sent gave s false false outcome (Some acted) c frames acts = record {
  sent_on = sent ++ one_if acted.frame;
  gave_on = gave;
  carries = (acts refl).carries;
  to_device = refl;
  to_driver = append-nil gave;
}

-- a client that begins a call begins an honest one
abbrev pub IsHonestEvent : State → Event → Type 0
IsHonestEvent s (event.Begin actor start asked) =
    is_thread s actor.0 ≡ false → (state : ClientState) → slice_get s.world.clients (client_number s actor.0) ≡ Some state → is_honest_call asked ≡ true
IsHonestEvent s other = Unit {0}

abbrev pub Moves : List (List ℕ) → List (List ℕ) → State → Event → Option Stepped → Type 0
Moves sent gave s e o = IfMoved sent gave (offered_in s e) (taken_in s e) (given_in s e) (drained_in s e) o

idles : (sent gave : List (List ℕ)) (deadline : Option ℕ) (w : World) → Carrying w sent gave → Carrying (world_idle deadline w) sent gave
unfolding world_idle
idles sent gave None w c = with_clients sent gave w _ c
idles sent gave (Some deadline) w c = c

device_moved : (sent gave : List (List ℕ)) (s : State) (o : Option DeviceStep) → IfDevice sent gave o
    → IfMoved sent gave [] (taken_frame o) (given_frame o) [] (option_map device_stepped o)
device_moved sent gave s None is = tt
device_moved sent gave s (Some done) is = is

-- a step moves what is on its way on
pub step_moves : (sent gave : List (List ℕ)) (s : State) (e : Event) → Carrying s.world sent gave → AreWithin s.core → IsHonestEvent s e → Moves sent gave s e (step s e)
unfolding step offered_in taken_in given_in drained_in
step_moves sent gave s (event.Begin actor start asked) c w honest =
    by_actor sent gave s (is_thread s actor.0) (drains asked) (core_begin s.core actor.0 start asked) (client_begin s (client_number s actor.0) start asked) c
    (drained_carries s.world sent gave c).0 (λ client. begun sent gave s (client_number s actor.0) start asked c (honest client))
step_moves sent gave s (event.Resume actor start) c w honest =
    by_actor sent gave s (is_thread s actor.0) true (core_resume s.core actor.0 start) (client_resume s (client_number s actor.0) start) c
    (drained_carries s.world sent gave c).0 (λ client. ended sent gave s (client_number s actor.0) start c)
step_moves sent gave s event.Device c w honest = device_moved sent gave s (device_step s) (device_moves sent gave s c w)
step_moves sent gave s event.Idle c w honest =
    elim (idle_lawful s) as (λ b. IfMoved sent gave [] [] [] [] (cond b (Some (idle s)) None)) [
      | true ↦ still sent gave (world_idle (next_deadline s) s.world) (idles sent gave (next_deadline s) s.world c)
      | false ↦ tt
    ]
