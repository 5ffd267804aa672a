-- Every step leaves a state within the limits, and answers little.
use Rattle.std.proofs.Common.{◌≡◌, ◌≤◌, ◌<◌, ℕ, ◌+◌, ◌&&◌, Bool, true, false, cond, not, length, map, Option, Some, None, refl, sym, ◌∙◌, ap, subst, arith, tests, length-append}
use Rattle.std.specs.Prelude.{nat_le, slice_get}
use Rattle.std.specs.Option.{option_map}
use Rattle.std.proofs.lemmas.List.{length-map}
use Rattle.std.proofs.lemmas.Option.{slice_get_within}
use Rattle.kernel_values.specs.declared.entry.ActorStatus.{ActorStatus}
use Rattle.kernel_values.specs.declared.entry.Event.{Event}
use Rattle.kernel_values.specs.declared.entry.Event.TheVariants as event
use Rattle.kernel_values.specs.declared.state.State.{State}
use Rattle.kernel_values.specs.declared.state.Thread.{Thread}
use Rattle.kernel_values.specs.declared.world.ClientState.{ClientState}
use Rattle.kernel_values.specs.declared.world.Driver.{Driver}
use Rattle.kernel_values.specs.declared.world.World.{World}
use Rattle.kernel_types.specs.Clients.{Acted}
use Rattle.kernel_types.specs.CoreStep.{core_begin, core_resume, idle_answer, status_of}
use Rattle.kernel_types.specs.Device.{DeviceStep, device_step}
use Rattle.kernel_types.specs.Facts.{is_client}
use Rattle.kernel_types.specs.Limits.{FitsIn, Room, full_room, no_room, path_room, room_of, room_of_call, IsSmallAnswer}
use Rattle.kernel_types.specs.Outcome.{Outcome}
use Rattle.kernel_types.specs.Step.{Stepped, beside_core, client_begin, client_number, client_resume, client_resume_of, client_status, device_stepped, step, idle, idle_lawful, idle_until, in_world, is_thread, next_deadline, statuses, world_idle}
use Rattle.step_laws.proofs.Bridged.{DeviceKeepsIf, any_change, device_keeps}
use Rattle.kernel_laws.proofs.Within.{WithinCore}
use Rattle.kernel_laws.proofs.Worlds.{ActsIf, Inboxes, InboxesOf, begin_acts, resume_of_acts}
use Rattle.kernel_laws.proofs.Answers.{AnswerFits, begin_fits, resume_fits}

-- a state is within the limits
pub record WithinState (s : State) : Type 0 where
  pub objects : WithinCore s.core
  pub inboxes : InboxesOf s.world

-- a step leaves the inboxes within the limits, and its answer is small and fits in the room
abbrev pub StepFine : Room → Option Stepped → Type 0
StepFine room None = Unit {0}
StepFine room (Some stepped) = InboxesOf stepped.state.world × IsSmallAnswer stepped.answer × FitsIn room stepped.answer

in_world_fine : (room : Room) (world : World) → InboxesOf world → (o : Option Outcome) → ((outcome : Outcome) → o ≡ Some outcome → AnswerFits room outcome.answer)
    → StepFine room (option_map (in_world world) o)
in_world_fine room world inboxes None fits = tt
in_world_fine room world inboxes (Some outcome) fits = (inboxes, (fits outcome refl).small, (fits outcome refl).fits)

-- what fits in no room fits in any
roomier : (room : Room) (o : Option Stepped) → StepFine no_room o → StepFine room o
roomier room None f = tt
roomier room (Some stepped) f = (f.0, f.1, record { bytes = omega (arith, f.2.bytes); handles = omega (arith, f.2.handles) })

beside_fine : (room : Room) (s : State) → WithinState s → (o : Option Acted) → ActsIf room s.world o → StepFine room (option_map (beside_core s.core) o)
beside_fine room s w None acts = tt
beside_fine room s w (Some acted) acts =
    (acts.world.inboxes w.inboxes, acts.small w.inboxes, acts.fits w.inboxes)

-- what a client's wait comes to fits in a client's room, since there is a client

status_count : (s : State) → length (statuses s) ≡ length s.core.threads + length s.world.clients
unfolding statuses
status_count s =
    let f : Thread → ActorStatus = λ thread. status_of thread.activity in
    let g : ClientState → ActorStatus = λ client. client_status client.activity in
    omega (arith, length-append (map f s.core.threads) (map g s.world.clients), length-map s.core.threads f, length-map s.world.clients g)

there_is_client : (s : State) (actor : ℕ) (client : ClientState) → is_thread s actor ≡ false → slice_get s.world.clients (client_number s actor) ≡ Some client → is_client s actor ≡ true
there_is_client s actor client other is =
    let below : client_number s actor < length s.world.clients = slice_get_within s.world.clients (client_number s actor) client is in
    let from : length s.core.threads ≤ actor = grind (arith, tests) in
    let first : nat_le (length s.core.threads) actor ≡ true = grind (arith, tests) in
    let most : actor < length (statuses s) = omega (arith, status_count s, below, from) in
    let last : nat_le (length (statuses s)) actor ≡ false = grind (arith, tests) in
    ap (λ b. b && not (nat_le (length (statuses s)) actor)) first ∙ ap not last

client_resume_fine : (s : State) → WithinState s → (actor start : ℕ) → is_thread s actor ≡ false
    → StepFine (cond (is_client s actor) full_room no_room) (option_map (beside_core s.core) (client_resume s (client_number s actor) start))
unfolding client_resume
client_resume_fine s w actor start other =
    let P : Option ClientState → Type 0 = λ o. slice_get s.world.clients (client_number s actor) ≡ o
    → StepFine (cond (is_client s actor) full_room no_room) (option_map (beside_core s.core) (client_resume_of s (client_number s actor) start o)) in
    let ends : (client : ClientState) → P (Some client) = λ client is.
    let stepped : Option Acted = client_resume_of s (client_number s actor) start (Some client) in
    subst (λ (b : Bool). StepFine (cond b full_room no_room) (option_map (beside_core s.core) stepped)) (sym (there_is_client s actor client other is))
    (beside_fine full_room s w stepped (resume_of_acts s (client_number s actor) start (Some client))) in
    let go : (o : Option ClientState) → P o = λ o. elim o as (λ v. P v) [ None ↦ (λ is. tt) | Some client ↦ ends client ] in
    go (slice_get s.world.clients (client_number s actor)) refl

device_fine : (s : State) (w : WithinState s) (o : Option DeviceStep) → DeviceKeepsIf s (any_change s.core) o → StepFine path_room (option_map device_stepped o)
device_fine s w None keeps = tt
device_fine s w (Some done) keeps = (
  subst (λ (d : Driver). Inboxes d.connections) (sym keeps.driver) w.inboxes,
  record { bytes = omega (arith, keeps.fits.bytes); handles = omega arith },
  keeps.fits,
)

idle_small : (deadline : Option ℕ) → IsSmallAnswer (idle_answer deadline)
idle_small None = record { bytes = omega arith; handles = omega arith }
idle_small (Some deadline) = record { bytes = omega arith; handles = omega arith }

idle_fits : (deadline : Option ℕ) → FitsIn no_room (idle_answer deadline)
idle_fits None = record { bytes = omega arith; handles = omega arith }
idle_fits (Some deadline) = record { bytes = omega arith; handles = omega arith }

idle_inboxes : (deadline : Option ℕ) (w : World) → InboxesOf w → InboxesOf (world_idle deadline w)
unfolding world_idle
idle_inboxes None w inboxes = inboxes
idle_inboxes (Some deadline) w inboxes = inboxes

idle_fine : (s : State) → WithinState s → (deadline : Option ℕ) → StepFine no_room (Some (idle_until deadline s))
idle_fine s w deadline = (
  idle_inboxes deadline s.world w.inboxes,
  idle_small deadline,
  idle_fits deadline,
)

pub step_fine : (s : State) → WithinState s → (ev : Event) → StepFine (room_of s ev) (step s ev)
unfolding step
step_fine s w (event.Begin actor start asked) =
    let room : Room = room_of_call asked in
    let thread : Option Outcome = core_begin s.core actor.0 start asked in
    let client : Option Acted = client_begin s (client_number s actor.0) start asked in
    elim (is_thread s actor.0) as (λ b. StepFine room (cond b (option_map (in_world s.world) thread) (option_map (beside_core s.core) client))) [
      | true ↦ in_world_fine room s.world w.inboxes thread (begin_fits s.core w.objects actor.0 start asked)
      | false ↦ beside_fine room s w client (begin_acts s (client_number s actor.0) start asked)
    ]
step_fine s w (event.Resume actor start) =
    let room : Room = cond (is_client s actor.0) full_room no_room in
    let thread : Option Stepped = option_map (in_world s.world) (core_resume s.core actor.0 start) in
    let client : Option Stepped = option_map (beside_core s.core) (client_resume s (client_number s actor.0) start) in
    let P : Bool → Type 0 = λ b. is_thread s actor.0 ≡ b → StepFine room (cond b thread client) in
    let go : (b : Bool) → P b = λ b. elim b as (λ v. P v) [
      | true ↦ (λ is. roomier room thread (in_world_fine no_room s.world w.inboxes (core_resume s.core actor.0 start) (resume_fits s.core w.objects actor.0 start)))
      | false ↦ (λ other. client_resume_fine s w actor.0 start other)
    ] in
    go (is_thread s actor.0) refl
step_fine s w event.Device = device_fine s w (device_step s) (device_keeps s (any_change s.core))
step_fine s w event.Idle = elim (idle_lawful s) as (λ b. StepFine no_room (cond b (Some (idle s)) None)) [ true ↦ idle_fine s w (next_deadline s) | false ↦ tt ]
