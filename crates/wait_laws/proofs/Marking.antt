-- A wait that began in a history, and whether an Idle cancelled it since, as the history grows.
use Rattle.std.proofs.Common.{◌≡◌, ℕ, ◌==◌, Bool, true, false, List, [], ◌∷◌, ◌++◌, refl, ap, sym, ◌∙◌, append_assoc}
use Rattle.std.proofs.Math.Bool.{or-false}
use Rattle.std.proofs.lemmas.Bool.{or_from}
use Rattle.std.proofs.lemmas.List.Folds.{list_any-append}
use Rattle.std.specs.Prelude.{◌||◌}
use Rattle.std.specs.List.{list_any}
use Rattle.kernel_values.specs.declared.call.Call.{Call}
use Rattle.kernel_values.specs.declared.entry.Entry.{Entry}
use Rattle.kernel_values.specs.declared.entry.Event.TheVariants as event
use Rattle.kernel_values.specs.declared.entry.Seqs.{Seqs}
use Rattle.kernel_values.specs.declared.reply.Answer.{Answer}
use Rattle.kernel_values.specs.declared.reply.Answer.TheVariants as answer
use Rattle.run_laws.proofs.Longer.{entry_with}
use Rattle.run_laws.proofs.Places.{same_number}
use Rattle.wait_laws.specs.Cancelling.{BegunWait, cancels, is_entry_of, waiting_entry}

pub record Marked (entries : List Entry) (k start : ℕ) (cancelled : Bool) : Type 0 where
  pub begun : BegunWait k start entries
  pub mark : cancelled ≡ list_any cancels begun.since

-- It begins with this entry.
pub began_marked : (entries : List Entry) (k start : ℕ) (asked : Call) (given : Answer) (seqs : Seqs) → given ≡ answer.Waits → (cancelled : Bool) → cancelled ≡ false
    → Marked (entries ++ entry_with (event.Begin (record { 0 = k }) start asked) given seqs ∷ []) k start cancelled
began_marked entries k start asked given seqs said cancelled unmarked = record {
  begun = record {
    before = entries;
    asked = asked;
    seqs = seqs;
    since = [];
    parts = ap (λ (a : Answer). entries ++ entry_with (event.Begin (record { 0 = k }) start asked) a seqs ∷ []) said;
    alone = refl;
  };
  mark = unmarked;
}

or_true : (b : Bool) → (b || true) ≡ true
or_true true = refl
or_true false = refl

-- One more entry, which is not of the actor.

pub longer : (entries : List Entry) (entry : Entry) (k start : ℕ) (was cancelled : Bool) → is_entry_of k entry ≡ false → cancelled ≡ (was || cancels entry)
    → Marked entries k start was → Marked (entries ++ entry ∷ []) k start cancelled
longer entries entry k start was cancelled apart mark m =
    let b : BegunWait k start entries = m.begun in
    record {
      begun = record {
        before = b.before;
        asked = b.asked;
        seqs = b.seqs;
        since = b.since ++ entry ∷ [];
        parts = ap (λ es. es ++ entry ∷ []) b.parts ∙ append_assoc b.before (waiting_entry k start b.asked b.seqs ∷ b.since) (entry ∷ []);
        alone = list_any-append (is_entry_of k) b.since (entry ∷ [])
            ∙ or_from (list_any (is_entry_of k) b.since) (list_any (is_entry_of k) (entry ∷ [])) b.alone (or_from (is_entry_of k entry) false apart refl);
      };
      mark = mark ∙ (ap (λ x. x || cancels entry) m.mark
          ∙ sym (list_any-append cancels b.since (entry ∷ []) ∙ ap (λ x. list_any cancels b.since || x) (or-false (cancels entry))));
    }

-- which cancels nothing
pub silent : (entries : List Entry) (entry : Entry) (k start : ℕ) (cancelled : Bool) → is_entry_of k entry ≡ false → cancels entry ≡ false → Marked entries k start cancelled
    → Marked (entries ++ entry ∷ []) k start cancelled
silent entries entry k start cancelled apart none m =
    longer entries entry k start cancelled cancelled apart (sym (ap (λ x. cancelled || x) none ∙ or-false cancelled)) m

-- which cancels all
pub cancelling : (entries : List Entry) (entry : Entry) (k start : ℕ) (was cancelled : Bool) → is_entry_of k entry ≡ false → cancels entry ≡ true → cancelled ≡ true
    → Marked entries k start was → Marked (entries ++ entry ∷ []) k start cancelled
cancelling entries entry k start was cancelled apart all mark m =
    longer entries entry k start was cancelled apart (mark ∙ sym (ap (λ x. was || x) all ∙ or_true was)) m

differ_by : (a b : ℕ) (same : Bool) → (a == b) ≡ same → (b ≡ a → ⊥) → same ≡ false
differ_by a b true is never = absurd (never (sym (same_number a b is)))
differ_by a b false is never = refl

pub differ : (a b : ℕ) → (b ≡ a → ⊥) → (a == b) ≡ false
differ a b never = differ_by a b (a == b) refl never
