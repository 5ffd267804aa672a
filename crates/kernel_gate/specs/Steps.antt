-- What a step leaves in the view of the seat that makes it, and why it is refused.
use Rattle.std.specs.Prelude.{◌≡◌, ⊤, ℕ, ◌+◌, ◌<◌, ◌≤◌, List, [], ◌∷◌, ◌++◌, length, Some}
use mathlib.Core.List.{IsPrefix}
use Rattle.kernel_values.specs.declared.entry.Event.{Event}
use Rattle.kernel_values.specs.declared.entry.Entry.{Entry}
use Rattle.kernel_types.specs.declared.kernel.StepCause.{StepCause}
use Rattle.kernel_types.specs.declared.kernel.StepCause.TheVariants as kernel
use Rattle.kernel_types.specs.declared.kernel.StepRefused.{StepRefused}
use Rattle.kernel_types.specs.History.{state_after}
use Rattle.kernel_types.specs.Kernel.{CauseHolds}
use Rattle.kernel_log.specs.declared.logged.Receipt.{Receipt}
use Rattle.turnstile.specs.declared.view.View.{View}
use Rattle.turnstile.specs.Steps.{IsOfAnother}
use Rattle.turnstile.specs.Views.{tried, left, added}
use Rattle.kernel_gate.specs.declared.steps.GateCause.{GateCause}
use Rattle.kernel_gate.specs.declared.steps.GateCause.TheVariants.{Busy, NotMovable, Full, NoMemory}
use Rattle.kernel_gate.specs.declared.steps.GateRefused.{GateRefused}

-- the seat keeps its number and its origin, and what it had seen begins what it has seen
pub record Goes (before after : View) : Type 0 where
  pub number_is : after.number ≡ before.number
  pub origin_is : after.origin ≡ before.origin
  pub begins : IsPrefix before.seen after.seen

-- the event's entry, with this answer, is the last that the seat has seen; its place is new, no earlier than what the seat knew of, and the only one that became its own
pub record Wrote (event : Event) (before after : View) (receipt : Receipt) : Type 0 where
  pub known : before.known ≤ receipt.place
  pub length_is : length after.seen ≡ receipt.place + 1
  pub mine_is : after.mine ≡ before.mine ++ receipt.place ∷ []
  pub earlier : List Entry
  pub entry : Entry
  pub seen_is : after.seen ≡ earlier ++ entry ∷ []
  pub event_is : entry.event ≡ event
  pub answer_is : entry.answer ≡ receipt.answer

-- the seat got the turn once more, has seen all that it knew of, and the kernel refuses the event in the state after all that it has seen
pub record Met (event : Event) (before after : View) (cause : StepCause) : Type 0 where
  pub turns_is : after.turns ≡ before.turns + 1
  pub known : before.known ≤ length after.seen
  pub holds : CauseHolds event (state_after after.origin.state after.seen) (after.origin.made + length after.seen) cause

-- why a call that waits made no step; want of memory is free
abbrev pub Refuses : Event → View → View → GateCause → Type 0
Refuses event before after (Busy word) = ⊥
Refuses event before after (NotMovable status) = Met event before after (kernel.NotMovable status)
Refuses event before after Full = Met event before after kernel.Full
Refuses event before after NoMemory = ⊤

-- why a call that tries once made no step: it may also have found the turn held, by another seat's word, and got no turn
abbrev pub RefusesOrBusy : Event → View → View → GateCause → Type 0
RefusesOrBusy event before after (Busy word) = (after ≡ tried before word) × IsOfAnother before word
RefusesOrBusy event before after (NotMovable status) = Refuses event before after (NotMovable status)
RefusesOrBusy event before after Full = Refuses event before after Full
RefusesOrBusy event before after NoMemory = Refuses event before after NoMemory

-- a kernel's cause, as the gate tells it
abbrev pub gate_cause : StepCause → GateCause
gate_cause (kernel.NotMovable status) = NotMovable status
gate_cause kernel.Full = Full
gate_cause kernel.NoMemory = NoMemory

abbrev pub gate_refused : StepRefused → GateRefused
gate_refused refused = record { event = refused.event; cause = gate_cause refused.cause }

-- a seat that was split off: it has seen and knows as much, has no entry of its own, and drew a number that was left
pub record Parts (seats : ℕ) (before other : View) : Type 0 where
  pub seen_is : other.seen ≡ before.seen
  pub known_is : other.known ≡ before.known
  pub mine_is : other.mine ≡ []
  pub number : ℕ
  pub number_is : other.number ≡ Some number
  pub was_left : before.drawn ≤ number
  pub below : number < seats

-- Within a call: the seat that had the turn and had seen all wrote the event's entry, and gave the turn back.
pub record Added (event : Event) (before after : View) (receipt : Receipt) : Type 0 where
  pub entry : Entry
  pub after_is : after ≡ left (added before (before.seen ++ entry ∷ []))
  pub place_is : receipt.place ≡ length before.seen
  pub event_is : entry.event ≡ event
  pub answer_is : entry.answer ≡ receipt.answer
