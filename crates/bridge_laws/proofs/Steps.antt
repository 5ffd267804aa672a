-- Every step keeps it that the bridge names the ends of its entries and no others, so every history does.
use Rattle.std.proofs.Common.{◌≡◌, ◌<◌, ℕ, ◌==◌, Bool, true, false, cond, List, [], ◌∷◌, Option, Some, None, refl, subst, sym, ap, ◌∙◌}
use Rattle.std.specs.List.{AllByRecursion}
use Rattle.std.specs.Option.{option_map}
use Rattle.std.proofs.lemmas.List.Elements.{recursion_from_All}
use Rattle.kernel_values.specs.SceneLaw.{SceneValue}
use Rattle.kernel_values.specs.declared.entry.Entry.{Entry}
use Rattle.kernel_values.specs.declared.entry.Event.{Event}
use Rattle.kernel_values.specs.declared.entry.Event.TheVariants as event
use Rattle.kernel_values.specs.declared.state.CoreState.{CoreState}
use Rattle.kernel_values.specs.declared.state.State.{State}
use Rattle.kernel_values.specs.declared.world.Device.{Device}
use Rattle.kernel_values.specs.declared.world.World.{World}
use Rattle.kernel_types.specs.Clients.{Acted}
use Rattle.kernel_types.specs.CoreStep.{core_begin, core_idle, core_resume}
use Rattle.kernel_types.specs.Device.{DeviceStep, device_step}
use Rattle.kernel_types.specs.History.{next_state, state_after, state_or}
use Rattle.kernel_types.specs.Limits.{Room, full_room, room_of_call}
use Rattle.kernel_types.specs.Names.{Name, naming}
use Rattle.kernel_types.specs.Opening.{opening}
use Rattle.kernel_types.specs.Outcome.{Outcome}
use Rattle.kernel_types.specs.Step.{Stepped, beside_core, client_begin, client_number, client_resume, device_stepped, step, idle, idle_lawful, in_world, is_thread, next_deadline, world_idle}
use Rattle.kernel_laws.proofs.Worlds.{ActsIf, begin_acts, resume_acts}
use Rattle.set_laws.specs.Soundness.{NamesAreGiven}
use Rattle.set_laws.proofs.Soundness.{openings_given, steps_keep_given}
use Rattle.step_laws.proofs.Leaving.{sweep_leaves}
use Rattle.step_laws.proofs.TurnLeaving.{LeftIf, begin_leaves, idle_leaves, resume_leaves}
use Rattle.set_laws.proofs.Known.{Known, apart}
use Rattle.bridge_laws.specs.Bridged.{NamesItsEntries}
use Rattle.bridge_laws.proofs.Device.{BridgedLeft, device_bridges}
use Rattle.bridge_laws.proofs.Entries.{Bridged, nothing_bridged}

abbrev IsBridged : State → Type 0
IsBridged s = Bridged s.core.bridged s.world.device.entries

abbrev IfBridged : Option Stepped → Type 0
IfBridged None = Unit {0}
IfBridged (Some stepped) = IsBridged stepped.state

-- the numbers of bridged ends were given
given_ends : (c : CoreState) → NamesAreGiven c → AllByRecursion (λ (x : ℕ). x < c.next) c.bridged
given_ends c given =
    let known : Known (λ x. x < c.next) c = apart (λ x. x < c.next) c (recursion_from_All (λ (name : Name). name.object < c.next) (naming c) given) in
    known.bridged

module _ (s : State) (given : NamesAreGiven s.core) (k : IsBridged s) where
  thread_bridged : (o : Option Outcome) → LeftIf s.core o → IfBridged (option_map (in_world s.world) o)
  thread_bridged None left = tt
  thread_bridged (Some outcome) left = subst (λ (ends : List ℕ). Bridged ends s.world.device.entries) (sym left.bridged) k

  client_bridged : (room : Room) (o : Option Acted) → ActsIf room s.world o → IfBridged (option_map (beside_core s.core) o)
  client_bridged room None acts = tt
  client_bridged room (Some acted) acts = subst (λ (d : Device). Bridged s.core.bridged d.entries) (sym acts.world.device) k

  device_bridged : (o : Option DeviceStep) → BridgedLeft o → IfBridged (option_map device_stepped o)
  device_bridged None left = tt
  device_bridged (Some done) left = left

  idle_device : (deadline : Option ℕ) (w : World) → (world_idle deadline w).device ≡ w.device
  unfolding world_idle
  idle_device None w = refl
  idle_device (Some deadline) w = refl

  idle_bridged : IsBridged (idle s).state
  idle_bridged =
      subst (λ (ends : List ℕ). Bridged ends (world_idle (next_deadline s) s.world).device.entries) (sym ((sweep_leaves (core_idle (next_deadline s) s.core)).bridged ∙ idle_leaves s.core (next_deadline s)))
      (subst (λ (d : Device). Bridged s.core.bridged d.entries) (sym (idle_device (next_deadline s) s.world)) k)

  step_bridged : (ev : Event) → IfBridged (step s ev)
  unfolding step
  step_bridged (event.Begin actor start asked) =
      elim (is_thread s actor.0)
      as (λ b. IfBridged (cond b (option_map (in_world s.world) (core_begin s.core actor.0 start asked)) (option_map (beside_core s.core) (client_begin s (client_number s actor.0) start asked)))) [
        | true ↦ thread_bridged (core_begin s.core actor.0 start asked) (begin_leaves s.core actor.0 start asked)
        | false ↦ client_bridged (room_of_call asked) (client_begin s (client_number s actor.0) start asked) (begin_acts s (client_number s actor.0) start asked)
      ]
  step_bridged (event.Resume actor start) =
      elim (is_thread s actor.0)
      as (λ b. IfBridged (cond b (option_map (in_world s.world) (core_resume s.core actor.0 start)) (option_map (beside_core s.core) (client_resume s (client_number s actor.0) start)))) [
        | true ↦ thread_bridged (core_resume s.core actor.0 start) (resume_leaves s.core actor.0 start)
        | false ↦ client_bridged full_room (client_resume s (client_number s actor.0) start) (resume_acts s (client_number s actor.0) start)
      ]
  step_bridged event.Device = device_bridged (device_step s) (device_bridges s (given_ends s.core given) k)
  step_bridged event.Idle = elim (idle_lawful s) as (λ b. IfBridged (cond b (Some (idle s)) None)) [ true ↦ idle_bridged | false ↦ tt ]

-- Histories. Where an event is not lawful, the state stays.

record Holds (s : State) : Type 0 where
  given : NamesAreGiven s.core
  bridged : IsBridged s

next_holds : (s : State) → Holds s → (ev : Event) (o : Option Stepped) → step s ev ≡ o → IfBridged o → Holds (state_or s o)
next_holds s k ev None is bridged = k
next_holds s k ev (Some stepped) is bridged = record { given = steps_keep_given s ev stepped k.given is; bridged = bridged }

histories_hold : (s : State) (entries : List Entry) → Holds s → Holds (state_after s entries)
histories_hold s [] k = k
histories_hold s (entry ∷ entries) k =
    histories_hold (next_state s entry.event) entries (next_holds s k entry.event (step s entry.event) refl (step_bridged s k.given k.bridged entry.event))

opening_holds : (scene : SceneValue) → Holds (opening scene)
unfolding opening
opening_holds scene = record { given = openings_given scene; bridged = nothing_bridged }

pub histories_bridged : (scene : SceneValue) (entries : List Entry) → NamesItsEntries (state_after (opening scene) entries)
histories_bridged scene entries =
    let k : Holds (state_after (opening scene) entries) = histories_hold (opening scene) entries (opening_holds scene) in
    record { same = k.bridged.same; once = k.bridged.once }
