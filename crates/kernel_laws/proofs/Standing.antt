-- No call changes which actors there are, nor a manifest.
use Rattle.std.proofs.Common.{◌≡◌, ℕ, ◌+◌, ◌==◌, true, false, cond, List, map, Option, Some, None, refl, ◌∙◌, ap}
use Rattle.std.specs.Prelude.{slice_get}
use Rattle.std.specs.Option.{option_map}
use Rattle.kernel_values.specs.declared.state.CoreState.{CoreState}
use Rattle.kernel_values.specs.declared.call.Call.{Call}
use Rattle.kernel_values.specs.declared.reply.Answer.{Answer}
use Rattle.kernel_values.specs.declared.state.Activity.{Activity}
use Rattle.kernel_values.specs.declared.state.TableEntry.{TableEntry}
use Rattle.kernel_types.specs.Sweep.{kept, pruned, sweep}
use Rattle.kernel_types.specs.Tables.{install, table_changed, with_table}
use Rattle.kernel_types.specs.Threads.{running_activity, waiting_activity, with_activity, activity_changed}
use Rattle.step_laws.specs.SmallChanges.{SmallChange, after}
use Rattle.step_laws.specs.SmallChanges.SmallChange.{cookie_changed, end_accepted, entry_installed, entry_removed, last_changed, parts_installed}
use Rattle.step_laws.specs.Walks.{ThreadChange, after_thread, asked_by}
use Rattle.step_laws.specs.Walks.ThreadChange.{app_over, app_started, member_added, set_made, thread_over, wait_begun}
use Rattle.step_laws.proofs.Invariants.{Invariant, walk_keeps}
use Rattle.step_laws.proofs.Leaving.{accept_keeps}
use Rattle.step_laws.proofs.Steps.{StepWalks, step_walks}
use Rattle.kernel_values.specs.declared.world.World.{World}
use Rattle.kernel_types.specs.Objects.{map_at}
use Rattle.kernel_types.specs.Applications.{ended_activity, started, started_as, application_ended, is_started_again, without_app, started_app, started_thread, ended_app, ended_thread}
use Rattle.kernel_types.specs.Outcome.{Outcome}
use Rattle.kernel_values.specs.declared.state.Application.{Application}
use Rattle.kernel_values.specs.declared.entry.Event.{Event}
use Rattle.kernel_values.specs.declared.state.State.{State}
use Rattle.kernel_types.specs.CoreStep.{core_begin, core_resume, core_idle, cancelled_activity}
use Rattle.kernel_types.specs.Clients.{Acted, client_cancelled, client_changed}
use Rattle.kernel_types.specs.Device.{DeviceStep, device_step}
use Rattle.kernel_types.specs.Limits.{Room, full_room, room_of_call}
use Rattle.kernel_types.specs.Step.{Stepped, beside_core, client_begin, client_number, client_resume, device_stepped, idle, idle_lawful, in_world, is_thread, step, next_deadline, world_idle}
use Rattle.step_laws.proofs.Bridged.{DeviceKeepsIf, any_change, device_keeps}
use Rattle.kernel_laws.proofs.Mapped.{map_at_same, mapped_same}
use Rattle.kernel_laws.proofs.Worlds.{ActsIf, begin_acts, nobody, resume_acts}
use Rattle.kernel_values.specs.declared.scene.Manifest.{Manifest}
use Rattle.kernel_values.specs.declared.state.Thread.{Thread}
use Rattle.kernel_values.specs.declared.entry.Event.TheVariants as event
use Rattle.kernel_values.specs.declared.state.Activity.TheVariants as activity

-- these manifests, and threads of these applications
pub record Stand (manifests : List Manifest) (owners : List ℕ) (apps : List Application) (threads : List Thread) : Type 0 where
  pub manifests_are : map (λ app. app.manifest) apps ≡ manifests
  pub owners_are : map (λ thread. thread.app) threads ≡ owners

abbrev pub StandIn : List Manifest → List ℕ → CoreState → Type 0
StandIn ms os c = Stand ms os c.apps c.threads

same_started_owner : (app start : ℕ) (thread : Thread) → (started_thread app start thread).app ≡ thread.app
same_started_owner app start thread =
    elim (thread.app == app) as (λ b. (cond b (record thread { activity = activity.Running start }) thread).app ≡ thread.app) [ true ↦ refl | false ↦ refl ]

same_ended_owner : (app : ℕ) (thread : Thread) → (ended_thread app thread).app ≡ thread.app
same_ended_owner app thread =
    elim (thread.app == app) as (λ b. (cond b (record thread { activity = ended_activity thread.activity }) thread).app ≡ thread.app) [ true ↦ refl | false ↦ refl ]

module _ (ms : List Manifest) (os : List ℕ) where
  app_changed : (f : Application → Application) → ((app : Application) → (f app).manifest ≡ app.manifest) → (apps : List Application) (threads : List Thread)
      → Stand ms os apps threads → (at : ℕ) → Stand ms os (map_at f apps at) threads
  app_changed f same apps threads k at =
      record { manifests_are = map_at_same (λ (app : Application). app.manifest) f same apps at ∙ k.manifests_are; owners_are = k.owners_are }

  thread_changed : (f : Thread → Thread) → ((thread : Thread) → (f thread).app ≡ thread.app) → (apps : List Application) (threads : List Thread)
      → Stand ms os apps threads → (at : ℕ) → Stand ms os apps (map_at f threads at)
  thread_changed f same apps threads k at =
      record { manifests_are = k.manifests_are; owners_are = map_at_same (λ (thread : Thread). thread.app) f same threads at ∙ k.owners_are }

  threads_changed : (f : Thread → Thread) → ((thread : Thread) → (f thread).app ≡ thread.app) → (apps : List Application) (threads : List Thread)
      → Stand ms os apps threads → Stand ms os apps (map f threads)
  threads_changed f same apps threads k =
      record { manifests_are = k.manifests_are; owners_are = mapped_same (λ (thread : Thread). thread.app) f same threads ∙ k.owners_are }

  tabled : (c : CoreState) → StandIn ms os c → (app : ℕ) (change : List TableEntry → List TableEntry) → StandIn ms os (with_table change app c)
  tabled c k app change = app_changed (table_changed change) (λ a. refl) c.apps c.threads k app

  acted : (c : CoreState) → StandIn ms os c → (change : Activity → Activity) (thread : ℕ) → StandIn ms os (with_activity change thread c)
  acted c k change thread = thread_changed (activity_changed change) (λ t. refl) c.apps c.threads k thread

  begun : (app : ℕ) (c : CoreState) → StandIn ms os c → StandIn ms os (started app c)
  unfolding started
  begun app c k =
      elim (slice_get c.apps app) as (λ o. StandIn ms os (started_as app o c)) [
        | None ↦ k
        | Some was ↦ threads_changed (started_thread app (was.starts + 1)) (same_started_owner app (was.starts + 1)) (map_at started_app c.apps app) c.threads
            (app_changed started_app (λ a. refl) c.apps c.threads k app)
      ]

  over : (app : ℕ) (c : CoreState) → StandIn ms os c → StandIn ms os (application_ended app c)
  unfolding application_ended
  over app c k =
      let less : StandIn ms os (without_app app c) = threads_changed (ended_thread app) (same_ended_owner app) (map_at ended_app c.apps app) c.threads
      (app_changed ended_app (λ a. refl) c.apps c.threads k app) in
      elim (is_started_again (slice_get c.apps app)) as (λ b. StandIn ms os (cond b (started app (without_app app c)) (without_app app c))) [
        | true ↦ begun app (without_app app c) less
        | false ↦ less
      ]

  idle_stands : (c : CoreState) → StandIn ms os c → (deadline : Option ℕ) → StandIn ms os (core_idle deadline c)
  unfolding core_idle
  idle_stands c k None = threads_changed (activity_changed cancelled_activity) (λ x. refl) c.apps c.threads k
  idle_stands c k (Some deadline) = k

-- a step leaves as many clients
abbrev pub ClientsStay : State → Option Stepped → Type 0
ClientsStay s None = Unit {0}
ClientsStay s (Some stepped) = map nobody stepped.state.world.clients ≡ map nobody s.world.clients

module _ (ms : List Manifest) (os : List ℕ) where
  small_stands : (by : Option ℕ) (c : CoreState) → StandIn ms os c → (change : SmallChange by c) → StandIn ms os (after by c change)
  small_stands by c k (cookie_changed app of_app handle cookie entry held) = tabled ms os c k app _
  small_stands by c k (entry_removed app of_app handle entry held) = tabled ms os c k app _
  small_stands by c k (entry_installed app of_app object nameable room) = tabled ms os c k app _
  small_stands by c k (parts_installed app of_app id number count end message there is_open room) = tabled ms os c k app _
  small_stands by c k (last_changed app of_app entry first) = app_changed ms os (λ a. record a { last = Some entry.handle }) (λ a. refl) c.apps c.threads k app
  small_stands by c k (end_accepted app of_app id server rest port there first room) =
      accept_keeps (λ d. StandIn ms os (install app server d)) (λ d objects l. l) id server rest c (tabled ms os c k app _)
  small_stands by c k _ = k

  thread_stands : (app thread : ℕ) (asked : Call) (said : Answer) (c : CoreState) → StandIn ms os c → (change : ThreadChange app thread asked said c)
      → StandIn ms os (after_thread app thread asked said c change)
  thread_stands app thread asked said c k (set_made is made room) = tabled ms os c k app _
  thread_stands app thread asked said c k (member_added held handle mask cookie id set entry is here may) = k
  thread_stands app thread asked said c k (wait_begun on awaits goes is) = acted ms os c k (waiting_activity _) thread
  thread_stands app thread asked said c k (app_started place was there still connects) = begun ms os place c k
  thread_stands app thread asked said c k (thread_over ends) = acted ms os c k ended_activity thread
  thread_stands app thread asked said c k (app_over ends) = over ms os app c k

  swept_stands : (c : CoreState) → StandIn ms os c → StandIn ms os (sweep c)
  unfolding sweep pruned kept
  swept_stands c k = k

  -- every change keeps the manifests and whose each thread is
  standing : Invariant
  standing = record {
    holds = StandIn ms os;
    small = λ by c k made change. small_stands by c k change;
    call = thread_stands;
    resumed = λ thread c k. acted ms os c k running_activity thread;
    served = λ place c k. begun ms os place c k;
    bridged = λ end c k given. k;
    unbridged = λ end c k. k;
    passed = λ deadline c k. idle_stands ms os c k deadline;
    swept = swept_stands;
  }

in_world_stay : (s : State) (o : Option Outcome) → ClientsStay s (option_map (in_world s.world) o)
in_world_stay s None = tt
in_world_stay s (Some outcome) = refl

beside_stay : (s : State) (room : Room) (o : Option Acted) → ActsIf room s.world o → ClientsStay s (option_map (beside_core s.core) o)
beside_stay s room None acts = tt
beside_stay s room (Some acted) acts = acts.world.clients

device_stay : (s : State) (o : Option DeviceStep) → DeviceKeepsIf s (any_change s.core) o → ClientsStay s (option_map device_stepped o)
device_stay s None keeps = tt
device_stay s (Some done) keeps = ap (map nobody) keeps.clients

idle_stay : (deadline : Option ℕ) (w : World) → map nobody (world_idle deadline w).clients ≡ map nobody w.clients
unfolding world_idle
idle_stay (Some deadline) w = refl
idle_stay None w = mapped_same nobody (client_changed client_cancelled) (λ x. refl) w.clients

pub step_clients : (s : State) (ev : Event) → ClientsStay s (step s ev)
unfolding step
step_clients s (event.Begin actor start asked) =
    let thread : Option Outcome = core_begin s.core actor.0 start asked in
    let client : Option Acted = client_begin s (client_number s actor.0) start asked in
    elim (is_thread s actor.0) as (λ b. ClientsStay s (cond b (option_map (in_world s.world) thread) (option_map (beside_core s.core) client)))
    [ true ↦ in_world_stay s thread | false ↦ beside_stay s (room_of_call asked) client (begin_acts s (client_number s actor.0) start asked) ]
step_clients s (event.Resume actor start) =
    let thread : Option Outcome = core_resume s.core actor.0 start in
    let client : Option Acted = client_resume s (client_number s actor.0) start in
    elim (is_thread s actor.0) as (λ b. ClientsStay s (cond b (option_map (in_world s.world) thread) (option_map (beside_core s.core) client)))
    [ true ↦ in_world_stay s thread | false ↦ beside_stay s full_room client (resume_acts s (client_number s actor.0) start) ]
step_clients s event.Device = device_stay s (device_step s) (device_keeps s (any_change s.core))
step_clients s event.Idle = elim (idle_lawful s) as (λ b. ClientsStay s (cond b (Some (idle s)) None)) [ true ↦ idle_stay (next_deadline s) s.world | false ↦ tt ]

-- a step leaves these manifests and threads
abbrev pub StepStands : State → Option Stepped → Type 0
StepStands s None = Unit {0}
StepStands s (Some stepped) = StandIn (map (λ app. app.manifest) s.core.apps) (map (λ thread. thread.app) s.core.threads) stepped.state.core

pub step_stands : (s : State) (ev : Event) → StepStands s (step s ev)
unfolding standing
step_stands s ev =
    let ms : List Manifest = map (λ app. app.manifest) s.core.apps in
    let os : List ℕ = map (λ thread. thread.app) s.core.threads in
    let P : Option Stepped → Type 0 = λ o. StepWalks (asked_by ev) s.core o → StepStands s o in
    let go : (o : Option Stepped) → P o = λ o. elim o as (λ v. P v) [
      | None ↦ (λ walks. tt)
      | Some stepped ↦ (λ walks. walk_keeps (standing ms os) s.core stepped.state.core walks (record { manifests_are = refl; owners_are = refl }))
    ] in
    go (step s ev) (step_walks s ev)
