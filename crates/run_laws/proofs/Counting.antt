-- No step adds an actor or takes one away.
use Rattle.std.proofs.Common.{◌≡◌, length, Option, Some, None, refl, ap, sym, ◌∙◌}
use Rattle.kernel_values.specs.declared.entry.Event.{Event}
use Rattle.kernel_values.specs.declared.state.State.{State}
use Rattle.kernel_types.specs.History.{next_state, state_or}
use Rattle.kernel_types.specs.Step.{Stepped, step, statuses}
use Rattle.kernel_laws.proofs.SameActors.{one_status_each, steps_keep}

same_number : (s : State) (e : Event) (r : Stepped) → step s e ≡ Some r → length (statuses r.state) ≡ length (statuses s)
same_number s e r is = one_status_each r.state ∙ (ap (λ kinds. length kinds) (steps_keep s e r is).kinds ∙ sym (one_status_each s))

number_after : (s : State) (o : Option Stepped) → ((r : Stepped) → o ≡ Some r → length (statuses r.state) ≡ length (statuses s))
    → length (statuses (state_or s o)) ≡ length (statuses s)
number_after s None keeps = refl
number_after s (Some stepped) keeps = keeps stepped refl

pub actors_stay : (s : State) (e : Event) → length (statuses (next_state s e)) ≡ length (statuses s)
actors_stay s e = number_after s (step s e) (same_number s e)
