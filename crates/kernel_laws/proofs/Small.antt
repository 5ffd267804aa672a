-- In every history from an opening state the objects stay within their limits, and every answer is small.
use Rattle.std.proofs.Common.{◌≡◌, List, [], ◌∷◌, Option, Some, None, refl, subst}
use Rattle.std.specs.List.{All, AllByRecursion}
use Rattle.std.specs.Option.{option_map}
use Rattle.std.proofs.lemmas.List.Elements.{All-from_recursion, recursion_from_All, All-nil}
use Rattle.kernel_values.specs.SceneLaw.{SceneValue}
use Rattle.kernel_values.specs.declared.entry.Event.{Event}
use Rattle.kernel_values.specs.declared.entry.Entry.{Entry}
use Rattle.kernel_values.specs.declared.state.Object.{Object}
use Rattle.kernel_values.specs.declared.state.State.{State}
use Rattle.kernel_types.specs.History.{Legal, entry_of, next_state, state_after, state_or}
use Rattle.kernel_types.specs.Opening.{opening}
use Rattle.kernel_types.specs.Step.{Stepped, step}
use Rattle.kernel_types.specs.Limits.{FitsIn, room_of, IsBodyWithin, IsInboxWithin, IsSmallAnswer, IsWithinLimits}
use Rattle.kernel_laws.proofs.WithinChanges.{step_within}
use Rattle.kernel_laws.proofs.WithinSteps.{StepFine, WithinState, step_fine}

inside : (s : State) → IsWithinLimits s → WithinState s
inside s w = record {
  objects = recursion_from_All (λ (object : Object). IsBodyWithin object.body) s.core.objects w.objects;
  inboxes = recursion_from_All IsInboxWithin s.world.driver.connections w.inboxes;
}

outside : (s : State) → WithinState s → IsWithinLimits s
outside s w = record {
  objects = All-from_recursion (λ (object : Object). IsBodyWithin object.body) s.core.objects w.objects;
  inboxes = All-from_recursion IsInboxWithin s.world.driver.connections w.inboxes;
}

stepped_fine : (s : State) (e : Event) (r : Stepped) → WithinState s → step s e ≡ Some r → StepFine (room_of s e) (Some r)
stepped_fine s e r w is = subst (λ (o : Option Stepped). StepFine (room_of s e) o) is (step_fine s w e)

stepped_within : (s : State) (e : Event) (r : Stepped) → WithinState s → step s e ≡ Some r → WithinState r.state
stepped_within s e r w is = record { objects = step_within s e r w.objects is; inboxes = (stepped_fine s e r w is).0 }

pub steps_within : (s : State) (e : Event) (r : Stepped) → IsWithinLimits s → step s e ≡ Some r → IsWithinLimits r.state × IsSmallAnswer r.answer
steps_within s e r w is = (outside r.state (stepped_within s e r (inside s w) is), (stepped_fine s e r (inside s w) is).1)

pub steps_fit : (s : State) (e : Event) (r : Stepped) → IsWithinLimits s → step s e ≡ Some r → FitsIn (room_of s e) r.answer
steps_fit s e r w is = (stepped_fine s e r (inside s w) is).2

pub opening_within : (scene : SceneValue) → IsWithinLimits (opening scene)
unfolding opening
opening_within scene = record { objects = All-nil (λ (object : Object). IsBodyWithin object.body); inboxes = All-nil IsInboxWithin }

-- the step that an entry tells of
entry_fine : (s : State) → WithinState s → (entry : Entry) (o : Option Stepped) → step s entry.event ≡ o → option_map (entry_of entry.event) o ≡ Some entry
    → WithinState (state_or s o) × IsSmallAnswer entry.answer
entry_fine s w entry None at is = absurd (cc)
entry_fine s w entry (Some stepped) at is =
    let same : entry_of entry.event stepped ≡ entry = cc in
    (stepped_within s entry.event stepped w at, subst (λ (x : Entry). IsSmallAnswer x.answer) same (stepped_fine s entry.event stepped w at).1)

along : (s : State) → WithinState s → (entries : List Entry) → Legal s entries
    → WithinState (state_after s entries) × AllByRecursion (λ entry. IsSmallAnswer entry.answer) entries
along s w [] legal = (w, tt)
along s w (entry ∷ entries) legal =
    let one : WithinState (next_state s entry.event) × IsSmallAnswer entry.answer = entry_fine s w entry (step s entry.event) refl legal.0 in
    let rest : WithinState (state_after (next_state s entry.event) entries) × AllByRecursion (λ e. IsSmallAnswer e.answer) entries = along (next_state s entry.event) one.0 entries legal.1 in
    (rest.0, (one.1, rest.1))

pub histories_within : (s : State) (entries : List Entry) → IsWithinLimits s → Legal s entries
    → IsWithinLimits (state_after s entries) × All (λ entry. IsSmallAnswer entry.answer) entries
histories_within s entries w legal =
    let both : WithinState (state_after s entries) × AllByRecursion (λ entry. IsSmallAnswer entry.answer) entries = along s (inside s w) entries legal in
    (outside (state_after s entries) both.0, All-from_recursion (λ (entry : Entry). IsSmallAnswer entry.answer) entries both.1)
