-- What one step of a kernel comes to, where nothing is kept of it.
use Rattle.std.specs.Prelude.{◌≡◌, ℕ, Option, Some, None}
use Rattle.kernel_values.specs.declared.entry.Event.{Event}
use Rattle.kernel_values.specs.declared.entry.Entry.{Entry}
use Rattle.kernel_values.specs.declared.state.State.{State}
use Rattle.kernel_types.specs.Kernel.{Did}
use Rattle.kernel_types.specs.Step.{step}
use Rattle.runners.specs.declared.place.Place.{Place}
use Rattle.runners.specs.Places.{after_answer}

-- the event's step was made, or the event is not lawful
abbrev pub Stepped : Event → State → State → ℕ → ℕ → Option Entry → Type 0
Stepped event s t made remade (Some entry) = Did event s t made remade entry
Stepped event s t made remade None = step s event ≡ None

-- and the actor took the answer
abbrev pub SteppedBy : Event → State → State → ℕ → ℕ → Place → Place → Option Entry → Type 0
SteppedBy event s t made remade place moved (Some entry) = Did event s t made remade entry × (moved ≡ after_answer place entry.answer)
SteppedBy event s t made remade place moved None = step s event ≡ None
