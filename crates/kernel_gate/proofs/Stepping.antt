-- What a seat that got the turn leaves, told of its view before it got it.
use Rattle.std.proofs.Common.{◌≡◌, ℕ, List, [], ◌∷◌, ◌++◌, Option, Some, None, ap, sym, length, ◌∙◌, length-append, append_assoc}
use Rattle.std.specs.Option.{option_map}
use mathlib.Core.List.{append-nil}
use Rattle.kernel_values.specs.declared.entry.Event.{Event}
use Rattle.kernel_values.specs.declared.entry.Entry.{Entry}
use Rattle.kernel_values.specs.declared.state.State.{State}
use Rattle.kernel_types.specs.declared.kernel.StepCause.{StepCause}
use Rattle.kernel_types.specs.declared.kernel.StepCause.TheVariants as kernel
use Rattle.kernel_types.specs.Step.{Stepped, step}
use Rattle.kernel_types.specs.History.{entry_of, step_entry}
use Rattle.kernel_types.specs.Kernel.{CauseHolds}
use Rattle.kernel_log.specs.declared.logged.Receipt.{Receipt}
use Rattle.kernel_log.specs.Logs.{Log, state_of, made_by}
use Rattle.turnstile.specs.declared.view.View.{View}
use Rattle.turnstile.specs.Steps.{Continues}
use Rattle.turnstile.specs.Views.{waited, entered, left, tried}
use Rattle.kernel_gate.specs.Steps.{Goes, Wrote, Met, Refuses, Added, gate_cause}

event_in : (event : Event) (stepped : Option Stepped) (entry : Entry) → option_map (entry_of event) stepped ≡ Some entry → entry.event ≡ event
event_in event None entry e = cc
event_in event (Some stepped) entry e = let same : entry_of event stepped ≡ entry = cc in sym (ap (λ (x : Entry). x.event) same)

-- the entry of an event's step is of that event
pub event_of_entry : (s : State) (event : Event) (entry : Entry) → step_entry s event ≡ Some entry → entry.event ≡ event
event_of_entry s event entry e = event_in event (step s event) entry e

pub wrote_goes : (event : Event) (v w : View) (tries last : ℕ) (h : List Entry) (r : Receipt) → Continues v h
    → Added event (entered (waited v tries last) h) w r → Goes v w
wrote_goes event v w tries last h r on more = record {
  number_is = ap (λ (x : View). x.number) more.after_is;
  origin_is = ap (λ (x : View). x.origin) more.after_is;
  begins = (on.0.0 ++ more.entry ∷ [], sym (append_assoc v.seen on.0.0 (more.entry ∷ [])) ∙ (ap (λ (l : List Entry). l ++ more.entry ∷ []) on.0.1 ∙ sym (ap (λ (x : View). x.seen) more.after_is)));
}

pub wrote : (event : Event) (v w : View) (tries last : ℕ) (h : List Entry) (r : Receipt) → Continues v h
    → Added event (entered (waited v tries last) h) w r → Wrote event v w r
wrote event v w tries last h r on more =
    let seen : w.seen ≡ h ++ more.entry ∷ [] = ap (λ (x : View). x.seen) more.after_is in
    let mine : w.mine ≡ v.mine ++ length h ∷ [] = ap (λ (x : View). x.mine) more.after_is in
    let place : r.place ≡ length h = more.place_is in
    record {
      known = rw place on.2;
      length_is = rw (seen, place) (length-append h (more.entry ∷ []));
      mine_is = rw place mine;
      earlier = h;
      entry = more.entry;
      seen_is = seen;
      event_is = more.event_is;
      answer_is = more.answer_is;
    }

pub stayed_goes : (v w : View) (tries last : ℕ) (h : List Entry) → Continues v h → w ≡ left (entered (waited v tries last) h) → Goes v w
stayed_goes v w tries last h on stays = record {
  number_is = ap (λ (x : View). x.number) stays;
  origin_is = ap (λ (x : View). x.origin) stays;
  begins = (on.0.0, on.0.1 ∙ sym (ap (λ (x : View). x.seen) stays));
}

pub tried_goes : (v w : View) (word : ℕ) → w ≡ tried v word → Goes v w
tried_goes v w word found = record {
  number_is = ap (λ (x : View). x.number) found;
  origin_is = ap (λ (x : View). x.origin) found;
  begins = ([], append-nil v.seen ∙ sym (ap (λ (x : View). x.seen) found));
}

met : (event : Event) (v w : View) (tries last : ℕ) (log : Log) (cause : StepCause) → Continues v log.journal.entries → log.origin ≡ v.origin
    → w ≡ left (entered (waited v tries last) log.journal.entries) → CauseHolds event (state_of log) (made_by log) cause → Met event v w cause
met event v w tries last log cause on o_is stays holds =
    let seen : w.seen ≡ log.journal.entries = ap (λ (x : View). x.seen) stays in
    let origin : w.origin ≡ log.origin = ap (λ (x : View). x.origin) stays ∙ sym o_is in
    record {
      turns_is = ap (λ (x : View). x.turns) stays;
      known = rw seen on.2;
      holds = rw (seen, origin) holds;
    }

pub refuses : (event : Event) (v w : View) (tries last : ℕ) (log : Log) (cause : StepCause) → Continues v log.journal.entries → log.origin ≡ v.origin
    → w ≡ left (entered (waited v tries last) log.journal.entries) → CauseHolds event (state_of log) (made_by log) cause → Refuses event v w (gate_cause cause)
refuses event v w tries last log (kernel.NotMovable status) on o_is stays holds = met event v w tries last log (kernel.NotMovable status) on o_is stays holds
refuses event v w tries last log kernel.Full on o_is stays holds = met event v w tries last log kernel.Full on o_is stays holds
refuses event v w tries last log kernel.NoMemory on o_is stays holds = tt
