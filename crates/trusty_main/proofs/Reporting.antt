-- What is due, from what was read and run.
use Rattle.std.proofs.Common.{◌≡◌, ◌≤◌, ℕ, zero, suc, ◌+◌, List, [], ◌∷◌, length, take, Option, Some, None, IfSome, IsTrue, refl, false, ap, sym, subst, ◌∙◌, Result, Ok, Err, inl, inr, arith, length-append}
use Rattle.std.specs.Prelude.{OnOk, slice_get}
use Rattle.kernel_values.specs.SceneLaw.{SceneValue}
use Rattle.kernel_values.specs.declared.entry.EndFacts.{EndFacts}
use Rattle.kernel_values.specs.declared.entry.Entry.{Entry}
use Rattle.kernel_values.specs.declared.state.State.{State}
use Rattle.kernel_types.specs.Facts.{end_facts, is_at_end}
use Rattle.kernel_types.specs.History.{next_state, state_after}
use Rattle.kernel_types.specs.Opening.{opening}
use Rattle.kernel_types.specs.Turns.{Outturn, ran, refused}
use Rattle.kernel_log.specs.Books.{Book}
use Rattle.kernel_log.specs.Logs.{Log, facts_along, state_of}
use Rattle.report_text.specs.Forms.{report, report_told}
use Rattle.outside_io.specs.Reading.{ReadsWhole}
use Rattle.report_text.specs.Histories.{TellsOnly}
use Rattle.report_text.specs.Printing.{Prints}
use Rattle.report_text.specs.declared.form.Form.{Form}
use Rattle.report_text.specs.declared.form.Form.TheVariants.{History}
use Rattle.report_text.specs.declared.refused.PrintRefused.{PrintRefused}
use Rattle.runners.specs.Runs.{run_logged}
use Rattle.trusty_main.specs.Answers.{Counts, IsReportOf, Tells, TellsLong}
use Rattle.trusty_main.specs.Due.{Due, due_of_run}
use Rattle.trusty_main.specs.Texts.{too_long_text, turn_text}
use Rattle.trusty_main.specs.declared.status.Status.{Status}
use Rattle.trusty_main.specs.declared.status.Status.TheVariants as status

-- the report that is printed from a journal is that of its history
pub told_is_report : (scene : SceneValue) (log : Log) (end : EndFacts) (form : Form) → log.origin.state ≡ opening scene
    → log.journal.facts ≡ facts_along log.origin.state log.journal.entries → end ≡ end_facts (state_of log)
    → report_told scene log.journal.entries log.journal.facts end form ≡ report scene log.journal.entries form
unfolding report
told_is_report scene log end form begun facts end_is = rw (facts, end_is, begun) refl

-- what is told is what is due
pub tells_due : {d e : Due} {old new : Option (List ℕ)} {before now : ℕ} {result : Status} → d ≡ e → Tells d old new before now result → Tells e old new before now result
tells_due {old = old} {new = new} {before = before} {now = now} {result = result} same told = subst (λ due. Tells due old new before now result) same told

-- of a run that came to its end
pub whole_is_due : (scene : SceneValue) (form : Form) (outturn : Outturn) (log : Log) → outturn ≡ ran (run_logged log) → log.origin.state ≡ opening scene
    → IsTrue (is_at_end (state_after (opening scene) log.journal.entries))
    → record { status = status.Done; text = report scene log.journal.entries form } ≡ due_of_run scene form outturn
whole_is_due scene form outturn log run_is begun ended = rw (run_is, begun, ended) refl

-- of one that did not
pub unfinished_is_due : (scene : SceneValue) (form : Form) (outturn : Outturn) (log : Log) → outturn ≡ ran (run_logged log)
    → is_at_end (state_of log) ≡ false → record { status = status.RunTooLong; text = too_long_text } ≡ due_of_run scene form outturn
unfinished_is_due scene form outturn log run_is goes_on = rw (run_is, goes_on) refl

-- of turns that were refused
pub refused_is_due : (scene : SceneValue) (form : Form) (outturn : Outturn) (k : ℕ) → outturn ≡ refused k
    → record { status = status.TurnRefused; text = turn_text k } ≡ due_of_run scene form outturn
refused_is_due scene form outturn k is = rw is refl

-- The facts of a journal count the states after its entries.

along_each : (s : State) (entries : List Entry) → length (facts_along s entries) ≡ length entries
along_each s [] = refl
along_each s (entry ∷ entries) = ap (λ n. suc n) (along_each (next_state s entry.event) entries)

counts_there : (s : State) → Counts s (end_facts s)
counts_there s = record { objects = refl; names = refl }

along_counts : (s : State) (entries : List Entry) (k : ℕ) (told : EndFacts) → slice_get (facts_along s entries) k ≡ Some told → Counts (state_after s (take (suc k) entries)) told
along_counts s [] k told is = absurd (cc)
along_counts s (entry ∷ entries) zero told is =
    let same : end_facts (next_state s entry.event) ≡ told = cc in
    subst (λ (facts : EndFacts). Counts (next_state s entry.event) facts) same (counts_there (next_state s entry.event))
along_counts s (entry ∷ entries) (suc k) told is = along_counts (next_state s entry.event) entries k told is

-- the report of a journal whose facts are those of its history
report_of_journal : (scene : SceneValue) (log : Log) (last : EndFacts) (form : Form) (old new : Option (List ℕ)) (before now made_before made : ℕ) (r : Result (Unit {0}) PrintRefused)
    → log.origin.state ≡ opening scene → log.journal.facts ≡ facts_along log.origin.state log.journal.entries → last ≡ end_facts (state_of log)
    → Prints old new before now made_before made r (report_told scene log.journal.entries log.journal.facts last form)
    → (form ≡ History → OnOk r (TellsOnly scene log.journal.entries (report_told scene log.journal.entries log.journal.facts last form)))
    → OnOk r (IsReportOf form scene log.journal.entries old new)
report_of_journal scene log last form old new before now made_before made (Err why) begun facts last_is prints fixes = tt
report_of_journal scene log last form old new before now made_before made (Ok done) begun facts last_is prints fixes =
    let entries : List Entry = log.journal.entries in
    let facts_are : log.journal.facts ≡ facts_along (opening scene) entries = facts ∙ ap (λ s. facts_along s entries) begun in
    let last_there : last ≡ end_facts (state_after (opening scene) entries) = last_is ∙ ap (λ s. end_facts (state_after s entries)) begun in
    record {
      facts = log.journal.facts;
      last = last;
      counted = record {
        each = ap (λ (told : List EndFacts). length told) facts_are ∙ along_each (opening scene) entries;
        counted = λ k told is.
            let next : suc k ≡ k + 1 = omega arith in
            subst (λ n. Counts (state_after (opening scene) (take n entries)) told) next
            (along_counts (opening scene) entries k told (ap (λ (all : List EndFacts). slice_get all k) (sym facts_are) ∙ is));
      };
      last_counted = subst (λ (told : EndFacts). Counts (state_after (opening scene) entries) told) (sym last_there) (counts_there (state_after (opening scene) entries));
      written = prints.whole;
      fixes = λ is. subst (λ (f : Form). TellsOnly scene entries (report scene entries f)) is
          (subst (λ text. TellsOnly scene entries text) (told_is_report scene log last form begun facts last_is) (fixes is));
    }

-- and so of a book that is the journal
pub report_of_book : (scene : SceneValue) (log : Log) (book : Book) (last : EndFacts) (form : Form) (old new : Option (List ℕ)) (before now made_before made : ℕ) (r : Result (Unit {0}) PrintRefused)
    → book ≡ log.journal → log.origin.state ≡ opening scene → log.journal.facts ≡ facts_along log.origin.state log.journal.entries → last ≡ end_facts (state_of log)
    → Prints old new before now made_before made r (report_told scene book.entries book.facts last form)
    → (form ≡ History → OnOk r (TellsOnly scene book.entries (report_told scene book.entries book.facts last form)))
    → OnOk r (IsReportOf form scene log.journal.entries old new)
report_of_book scene log book last form old new before now made_before made r same begun facts last_is prints fixes =
    report_of_journal scene log last form old new before now made_before made r begun facts last_is
    (subst (λ (b : Book). Prints old new before now made_before made r (report_told scene b.entries b.facts last form)) same prints)
    (subst (λ (b : Book). form ≡ History → OnOk r (TellsOnly scene b.entries (report_told scene b.entries b.facts last form))) same fixes)

-- What was read whole was within the limit; and every other answer of reading is an excuse.

pub within_limit : (limit : ℕ) (left after : Option (List ℕ)) (input : List ℕ) (result : Status) → ReadsWhole limit left after input → TellsLong left limit result
within_limit limit None after input result read = tt
within_limit limit (Some all) None input result read = absurd read.taken
within_limit limit (Some all) (Some rest) input result read = λ over.
    absurd (omega (arith, over, read.within, ap length read.taken, length-append input rest, ap length read.at_end))

pub long_told : (left : Option (List ℕ)) (limit : ℕ) → TellsLong left limit status.InputTooLong
long_told None limit = tt
long_told (Some input) limit = λ over. inl refl

pub long_failed : (left : Option (List ℕ)) (limit : ℕ) → TellsLong left limit status.ReadFault
long_failed None limit = tt
long_failed (Some input) limit = λ over. inr (inl refl)

pub long_unread : (left : Option (List ℕ)) (limit : ℕ) → TellsLong left limit status.NoMemory
long_unread None limit = tt
long_unread (Some input) limit = λ over. inr (inr refl)

-- nothing was read
pub unread : (left : Option (List ℕ)) (n : ℕ) → IfSome left (λ input. n ≤ n + length input + 1)
unread None n = tt
unread (Some input) n = omega arith
