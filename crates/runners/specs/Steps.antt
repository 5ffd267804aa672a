-- What one step of a kernel with a journal comes to.
use Rattle.std.specs.Prelude.{◌≡◌, ℕ, List, not, Option, Some, None}
use Rattle.kernel_values.specs.declared.entry.Event.{Event}
use Rattle.kernel_types.specs.Step.{step}
use Rattle.kernel_log.specs.Logs.{Log, state_of, Wrote}
use Rattle.kernel_log.specs.declared.logged.Receipt.{Receipt}
use Rattle.runners.specs.declared.place.Place.{Place}
use Rattle.runners.specs.declared.steps.Taken.{Taken}
use Rattle.runners.specs.declared.steps.Taken.TheVariants.{Stepped, Unlawful}
use Rattle.runners.specs.Places.{after_answer, recounted}

abbrev pub IsSameLog : Log → Log → Type 0
IsSameLog log same = (same.origin ≡ log.origin) × (same.journal.entries ≡ log.journal.entries)

-- the event's entry was written, or the event is not lawful and nothing was
abbrev pub Made : Event → Log → Log → Option Receipt → Type 0
Made event log longer (Some receipt) = Wrote event log longer receipt.place
Made event log same None = (step (state_of log) event ≡ None) × IsSameLog log same

-- and the actor took the answer
abbrev pub MadeBy : Event → Log → Log → Place → Place → Taken → Type 0
MadeBy event log longer place moved Stepped = (at : ℕ) × (wrote : Wrote event log longer at) × (moved ≡ after_answer place wrote.entry.answer)
MadeBy event log same place stays Unlawful = (step (state_of log) event ≡ None) × IsSameLog log same × (stays ≡ place)

-- and an answer was counted
abbrev pub CountedBy : Place → ℕ → List ℕ → List ℕ → Taken → Type 0
CountedBy moved actor counts recounts Stepped = recounts ≡ recounted counts actor (not moved.waits)
CountedBy moved actor counts recounts Unlawful = recounts ≡ counts
