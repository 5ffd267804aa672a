-- Every opening state is orderly. Each step keeps it so, and its answer fits the room of its event; so do the calls of the bridge.
use Rattle.std.proofs.Common.{◌≡◌, ◌≤◌, ℕ, Bool, List, Option, Some, length}
use Rattle.std.specs.Prelude.{Ok}
use Rattle.std.proofs.lemmas.List.Elements.{All-from_recursion, recursion_from_All}
use Rattle.kernel_values.specs.SceneLaw.{SceneValue}
use Rattle.kernel_values.specs.declared.entry.Event.{Event}
use Rattle.kernel_values.specs.declared.state.CoreState.{CoreState}
use Rattle.kernel_values.specs.declared.state.Object.{Object}
use Rattle.kernel_values.specs.declared.state.State.{State}
use Rattle.kernel_types.specs.Bridge.{ns_connect, ns_drop, ns_push, ns_take, ns_view}
use Rattle.kernel_types.specs.Bridging.{with_core}
use Rattle.kernel_types.specs.CoreStep.{core_idle}
use Rattle.kernel_types.specs.Limits.{FitsIn, room_of, IsBodyWithin, IsWithinLimits}
use Rattle.kernel_types.specs.Opening.{opening, opening_core, without_clients}
use Rattle.kernel_types.specs.Step.{step}
use Rattle.kernel_types.specs.Sweep.{sweep}
use Rattle.kernel_laws.proofs.Small.{opening_within, steps_fit, steps_within}
use Rattle.kernel_laws.proofs.Within.{WithinCore}
use Rattle.kernel_laws.proofs.WithinChanges.{connected_within, idle_within, ns_drop_within, ns_push_within, ns_take_within, swept_within}
use Rattle.set_laws.specs.Soundness.{IsSound}
use Rattle.set_laws.proofs.Bridging.{connected_sound, dropped_sound, idled_sound, pushed_sound, taken_sound}
use Rattle.set_laws.proofs.Circles.{no_circle}
use Rattle.set_laws.proofs.Soundness.{openings_sound, steps_keep_sound}
use Rattle.core_changes.specs.declared.outcomes.CallOutcome.{CallOutcome}
use Rattle.core_kernels.specs.Orderly.{IsOrderly}
use Rattle.core_kernels.specs.Steps.{clientless, whole, stepped}

orderly : (s : State) → IsWithinLimits s → IsSound s → IsOrderly s
orderly s within sound = record {
  within = within;
  sound = sound;
  no_circles = λ set between circle. no_circle s.core.objects set between sound.chains circle;
}

opening_orderly : (scene : SceneValue) → IsOrderly (opening scene)
opening_orderly scene = orderly (opening scene) (opening_within scene) (openings_sound scene)

pub opened_orderly : (scene : SceneValue) (core : CoreState) → core ≡ opening_core scene.apps → IsOrderly (whole core scene.queue)
unfolding opening clientless
opened_orderly scene core core_is = rw core_is (opening_orderly (without_clients scene))

pub next_orderly : (event : Event) (s : State) (core : CoreState) (told : CallOutcome) → step s event ≡ Some (stepped told core s.world) → IsOrderly s → IsOrderly (with_core core s)
next_orderly event s core told is kept =
    orderly (with_core core s) (steps_within s event (stepped told core s.world) kept.within is).0
    (steps_keep_sound s event (stepped told core s.world) kept.sound is)

pub next_fits : (event : Event) (s : State) (core : CoreState) (told : CallOutcome) → step s event ≡ Some (stepped told core s.world) → IsOrderly s → FitsIn (room_of s event) told.answer
next_fits event s core told is kept = steps_fit s event (stepped told core s.world) kept.within is

-- The calls of the bridge.

inside : (s : State) → IsOrderly s → WithinCore s.core
inside s kept = recursion_from_All (λ (object : Object). IsBodyWithin object.body) s.core.objects kept.within.objects

within_by : (s : State) (c : CoreState) → IsOrderly s → WithinCore c → IsWithinLimits (with_core c s)
within_by s c kept within = record { objects = All-from_recursion (λ (object : Object). IsBodyWithin object.body) c.objects within; inboxes = kept.within.inboxes }

pub connected_orderly : (s : State) (made : CoreState) (path : List ℕ) → ns_connect s.core path ≡ Ok made → IsOrderly s → IsOrderly (with_core made s)
connected_orderly s made path is kept =
    orderly (with_core made s) (within_by s made kept (connected_within s.core made path (inside s kept) is)) (connected_sound s made path kept.sound is)

pub pushed_orderly : (s : State) (end : ℕ) (bytes : List ℕ) → length bytes ≤ (ns_view s.core end).size → IsOrderly s → IsOrderly (with_core (ns_push s.core end bytes).core s)
pushed_orderly s end bytes few kept =
    orderly (with_core (ns_push s.core end bytes).core s) (within_by s (ns_push s.core end bytes).core kept (ns_push_within s.core (inside s kept) end bytes few)) (pushed_sound s end bytes few kept.sound)

pub taken_orderly : (s : State) (end : ℕ) → IsOrderly s → IsOrderly (with_core (ns_take s.core end).core s)
taken_orderly s end kept =
    orderly (with_core (ns_take s.core end).core s) (within_by s (ns_take s.core end).core kept (ns_take_within s.core (inside s kept) end)) (taken_sound s end kept.sound)

pub dropped_orderly : (s : State) (broken : Bool) (end : ℕ) → IsOrderly s → IsOrderly (with_core (ns_drop broken end s.core) s)
dropped_orderly s broken end kept =
    orderly (with_core (ns_drop broken end s.core) s) (within_by s (ns_drop broken end s.core) kept (ns_drop_within s.core (inside s kept) broken end)) (dropped_sound s broken end kept.sound)

pub idled_orderly : (s : State) (clock : Option ℕ) → IsOrderly s → IsOrderly (with_core (sweep (core_idle clock s.core)) s)
idled_orderly s clock kept =
    orderly (with_core (sweep (core_idle clock s.core)) s)
    (within_by s (sweep (core_idle clock s.core)) kept (swept_within (core_idle clock s.core) (idle_within clock s.core (inside s kept)))) (idled_sound s clock kept.sound)
