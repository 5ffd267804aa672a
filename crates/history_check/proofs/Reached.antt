-- How far a check has come, and what it comes to at the end.
use Rattle.std.proofs.Common.{◌≡◌, ℕ, ◌+◌, true, false, List, [], ◌∷◌, ◌++◌, length, get_or, map, Some, refl, sym, ap, ◌∙◌, subst, arith, append_assoc, append-nil, length-append, inl, inr}
use Rattle.std.specs.Prelude.{◌⊎◌, codes, decimal, ◌==◌, slice_get}
use Rattle.std.proofs.lemmas.Bool.Decides.{nat_tests}
use Rattle.std.specs.List.{AllByRecursion}
use Rattle.std.proofs.lemmas.List.{append_cancel_left, append_cancel_right}
use mathlib.Core.List.{IsPrefix}
use Rattle.kernel_values.specs.SceneLaw.{SceneValue, IsLawfulScene, scripts_of}
use Rattle.kernel_values.specs.declared.entry.Entry.{Entry}
use Rattle.kernel_values.specs.declared.entry.EndFacts.{EndFacts}
use Rattle.kernel_values.specs.declared.script.Command.{Command}
use Rattle.kernel_values.specs.declared.state.State.{State}
use Rattle.kernel_types.specs.Facts.{end_facts, is_at_end}
use Rattle.kernel_types.specs.History.{Legal, next_state, state_after, step_entry}
use Rattle.kernel_types.specs.Opening.{opening}
use Rattle.kernel_types.specs.Whole.{FollowsScripts}
use Rattle.report_text.specs.Answers.{answer_words}
use Rattle.report_text.specs.Forms.{answered_by, event_words, end_words, entry_lines, entry_words, report, report_told}
use Rattle.report_text.specs.Lines.{blank, line_end, lined, spelled, text_of}
use Rattle.report_text.specs.Names.{actor_names}
use Rattle.report_text.specs.declared.form.Form.TheVariants.{History}
use Rattle.report_text.proofs.WordsRead.{Digits, IsDigit, decimal_digits}
use Rattle.runners.specs.Places.{PlacesFit, first_place}
use Rattle.runners.proofs.Fitting.{fits_first}
use Rattle.runners.proofs.Starting.{get_places}
use Rattle.history_check.specs.declared.actors.Actors.{Actors}
use Rattle.history_check.specs.Checking.{CanFollow, IsEnd, NoLine, Opens, StandAt, TookLine}
use Rattle.history_check.specs.Verdicts.{BeginsWith, IsNo, IsReportOf, IsYes, behind_first_line}

-- Histories that grow by one entry.

pub state_more : (s : State) (entries : List Entry) (entry : Entry) → state_after s (entries ++ entry ∷ []) ≡ next_state (state_after s entries) entry.event
state_more s [] entry = refl
state_more s (first ∷ entries) entry = state_more (next_state s first.event) entries entry

pub legal_more : (s : State) (entries : List Entry) (entry : Entry) → Legal s entries → step_entry (state_after s entries) entry.event ≡ Some entry → Legal s (entries ++ entry ∷ [])
legal_more s [] entry legal is = (is, tt)
legal_more s (first ∷ entries) entry legal is = (legal.0, legal_more (next_state s first.event) entries entry legal.1 is)

legal_at : (s : State) (entries later : List Entry) (entry : Entry) → Legal s (entries ++ entry ∷ later) → step_entry (state_after s entries) entry.event ≡ Some entry
legal_at s [] later entry legal = legal.0
legal_at s (first ∷ entries) later entry legal = legal_at (next_state s first.event) entries later entry legal.1

-- The lines of entries, and those behind them.

lines_split : (names : List (List ℕ)) (k : ℕ) (entries more : List Entry) (n : ℕ) → n ≡ k + length entries
    → text_of (entry_lines names k (entries ++ more)) ≡ text_of (entry_lines names k entries) ++ text_of (entry_lines names n more)
lines_split names k [] more n is = ap (λ j. text_of (entry_lines names j more)) (let same : k ≡ n = omega (arith, is) in same)
lines_split names k (entry ∷ entries) more n is =
    ap (λ text. lined (entry_words names k entry) ++ text) (lines_split names (k + 1) entries more n (omega (arith, is)))
    ∙ sym (append_assoc (lined (entry_words names k entry)) (text_of (entry_lines names (k + 1) entries)) (text_of (entry_lines names n more)))

text_append : (a b : List (List (List ℕ))) → text_of (a ++ b) ≡ text_of a ++ text_of b
text_append [] b = refl
text_append (line ∷ a) b = ap (λ text. lined line ++ text) (text_append a b) ∙ sym (append_assoc (lined line) (text_of a) (text_of b))

-- The report is its first line, the entries' lines, and the last one.

abbrev head : ℕ → List ℕ
head n = lined (codes "history" ∷ decimal n ∷ [])

abbrev last : SceneValue → List Entry → List ℕ
last scene entries = lined (end_words (end_facts (state_after (opening scene) entries)))

abbrev lines : SceneValue → List Entry → List ℕ
lines scene entries = text_of (entry_lines (actor_names scene) 0 entries)

report_parts : (scene : SceneValue) (entries : List Entry) → report scene entries History ≡ head (length entries) ++ (lines scene entries ++ last scene entries)
unfolding report report_told
report_parts scene entries =
    let end = end_words (end_facts (state_after (opening scene) entries)) in
    ap (λ text. head (length entries) ++ text)
    (text_append (entry_lines (actor_names scene) 0 entries) (end ∷ []) ∙ ap (λ text. lines scene entries ++ text) (append-nil (lined end)))

-- What stands behind a first line that counts.

abbrev NoEnd : ℕ → Type 0
NoEnd byte = byte ≡ 10 → ⊥

behind_plain : (line text : List ℕ) → AllByRecursion NoEnd line → behind_first_line (line ++ line_end ∷ text) ≡ text
behind_plain [] text all = refl
behind_plain (byte ∷ line) text all =
    let differs : byte ≡ 10 → ⊥ = all.0 in
    let test : (byte == 10) ≡ false = grind (arith, nat_tests) in
    rw test (behind_plain line text all.1)

all_append : (xs ys : List ℕ) → AllByRecursion NoEnd xs → AllByRecursion NoEnd ys → AllByRecursion NoEnd (xs ++ ys)
all_append [] ys p q = q
all_append (x ∷ xs) ys p q = (p.0, all_append xs ys p.1 q)

digits_end : (word : List ℕ) → AllByRecursion IsDigit word → AllByRecursion NoEnd word
digits_end [] all = tt
digits_end (byte ∷ word) all = (λ is. omega (arith, is, all.0.0), digits_end word all.1)

history_end : AllByRecursion NoEnd (codes "history" ++ blank ∷ [])
history_end = (λ is. omega (arith, is), (λ is. omega (arith, is), (λ is. omega (arith, is), (λ is. omega (arith, is), (λ is. omega (arith, is), (λ is. omega (arith, is), (λ is. omega (arith, is), (λ is. omega (arith, is), tt))))))))

head_is_line : (n : ℕ) → head n ≡ ((codes "history" ++ blank ∷ []) ++ decimal n) ++ line_end ∷ []
unfolding lined
head_is_line n = ap (λ digits. (codes "history" ++ blank ∷ digits) ++ line_end ∷ []) (append-nil (decimal n))

behind_head : (n : ℕ) (text : List ℕ) → behind_first_line (head n ++ text) ≡ text
behind_head n text =
    ap (λ line. behind_first_line (line ++ text)) (head_is_line n)
    ∙ ap behind_first_line (append_assoc ((codes "history" ++ blank ∷ []) ++ decimal n) (line_end ∷ []) text)
    ∙ behind_plain ((codes "history" ++ blank ∷ []) ++ decimal n) text (all_append (codes "history" ++ blank ∷ []) (decimal n) history_end (digits_end (decimal n) (decimal_digits n).all))

-- The last line is none of an entry.

abbrev starts : List ℕ → ℕ
starts text = get_or {A = ℕ} text 0 0

digit_starts : (word rest : List ℕ) → Digits word → IsDigit (starts (word ++ rest))
digit_starts [] rest d = absurd (omega (arith, d.some))
digit_starts (byte ∷ word) rest d = d.all.0

entry_starts : (names : List (List ℕ)) (k : ℕ) (entry : Entry) (rest : List ℕ) → IsDigit (starts (lined (entry_words names k entry) ++ rest))
unfolding lined entry_words
entry_starts names k entry rest = by (decimal k) (spelled (event_words names entry.event ++ answered_by (answer_words entry.answer))) (decimal_digits k)
  where
    by : (word more : List ℕ) → Digits word → IsDigit (starts (((word ++ more) ++ line_end ∷ []) ++ rest))
    by [] more d = absurd (omega (arith, d.some))
    by (byte ∷ word) more d = d.all.0

end_starts : (end : EndFacts) → starts (lined (end_words end)) ≡ 101
unfolding lined
end_starts end = refl

no_entry : (names : List (List ℕ)) (k : ℕ) (entry : Entry) (rest : List ℕ) (end : EndFacts) → lined (end_words end) ≡ lined (entry_words names k entry) ++ rest → ⊥
no_entry names k entry rest end same =
    let digit : IsDigit 101 = subst IsDigit (sym (ap starts same) ∙ end_starts end) (entry_starts names k entry rest) in omega (arith, digit.1)

-- nor does it begin with a number
pub no_number : (k : ℕ) (text : List ℕ) (end : EndFacts) → IsPrefix (decimal k ++ blank ∷ []) text → text ≡ lined (end_words end) → ⊥
no_number k text end p is =
    let digit : IsDigit (starts ((decimal k ++ blank ∷ []) ++ p.0)) = subst (λ xs. IsDigit (starts xs)) (sym (append_assoc (decimal k) (blank ∷ []) p.0)) (digit_starts (decimal k) (blank ∷ p.0) (decimal_digits k)) in
    let here : IsDigit 101 = subst IsDigit (ap starts (p.1 ∙ is) ∙ end_starts end) digit in omega (arith, here.1)

-- How far the check has come.

-- a history that begins the text, without the text's first line
pub record GoesWith (scene : SceneValue) (entries : List Entry) (behind : List ℕ) : Type 0 where
  pub legal : Legal (opening scene) entries
  pub follows : FollowsScripts (scripts_of scene) entries
  pub begins : IsPrefix (lines scene entries) behind

pub record Reached (scene : SceneValue) (behind rest : List ℕ) (actors : Actors) (s : State) (k : ℕ) : Type 0 where
  pub entries : List Entry
  pub lawful : IsLawfulScene scene
  pub names_are : actors.names ≡ actor_names scene
  pub scripts_are : actors.scripts ≡ scripts_of scene
  pub kept : PlacesFit actors.scripts actors.places.items entries
  pub legal : Legal (opening scene) entries
  pub state_is : s ≡ state_after (opening scene) entries
  pub count_is : length entries ≡ k
  pub behind_is : behind ≡ lines scene entries ++ rest
  pub only : (other : List Entry) → GoesWith scene other behind → IsPrefix other entries ⊎ IsPrefix entries other

follows_of : (scripts : List (List Command)) (entries : List Entry) (actors : Actors) → actors.scripts ≡ scripts → PlacesFit actors.scripts actors.places.items entries → FollowsScripts scripts entries
follows_of scripts entries actors is kept = subst (λ cs. FollowsScripts cs entries) is (λ actor start script script_is. (kept actor script script_is).2.in_script start)

pub begun : (scene : SceneValue) (behind : List ℕ) (actors : Actors) (s : State) → Opens scene actors s → Reached scene behind behind actors s 0
begun scene behind actors s o = record {
  entries = [];
  lawful = o.lawful;
  names_are = o.actors_are.names_are;
  scripts_are = o.actors_are.scripts_are;
  kept = λ number script script_is. (
    first_place script,
    ap (λ ps. slice_get ps number) (o.actors_are.places_are ∙ ap (λ cs. map first_place cs) (sym o.actors_are.scripts_are)) ∙ get_places actors.scripts number script script_is,
    fits_first number script,
  );
  legal = tt;
  state_is = o.state_is;
  count_is = refl;
  behind_is = refl;
  only = λ other goes. inr (other, refl);
}

-- what comes behind the entries so far, where the text goes with it
module _ (scene : SceneValue) (behind rest : List ℕ) (actors : Actors) (s : State) (k : ℕ) (r : Reached scene behind rest actors s k) where
  stands : StandAt scene actors r.entries
  stands = record { lawful = r.lawful; names_are = r.names_are; kept = r.kept }

  next_can : (later : List Entry) (entry : Entry) → GoesWith scene (r.entries ++ entry ∷ later) behind → CanFollow actors s r.entries k rest entry
  next_can later entry goes =
      let cut : text_of (entry_lines (actor_names scene) k (entry ∷ later)) ++ goes.begins.0 ≡ rest =
      append_cancel_left (lines scene r.entries) _ _
      (sym (append_assoc (lines scene r.entries) (text_of (entry_lines (actor_names scene) k (entry ∷ later))) goes.begins.0)
      ∙ (ap (λ text. text ++ goes.begins.0) (sym (lines_split (actor_names scene) 0 r.entries (entry ∷ later) k (omega (arith, r.count_is)))) ∙ (goes.begins.1 ∙ r.behind_is))) in
      record {
        step_is = subst (λ t. step_entry t entry.event ≡ Some entry) (sym r.state_is) (legal_at (opening scene) r.entries later entry goes.legal);
        later = later;
        follows = subst (λ cs. FollowsScripts cs (r.entries ++ entry ∷ later)) (sym r.scripts_are) goes.follows;
        line = subst (λ names. IsPrefix (lined (entry_words names k entry)) rest) (sym r.names_are) (
          text_of (entry_lines (actor_names scene) (k + 1) later) ++ goes.begins.0,
          sym (append_assoc (lined (entry_words (actor_names scene) k entry)) (text_of (entry_lines (actor_names scene) (k + 1) later)) goes.begins.0) ∙ cut,
        );
      }

  -- nothing comes: no history goes on
  pub stopped : NoLine k rest actors s → (other : List Entry) → GoesWith scene other behind → IsPrefix other r.entries
  stopped none other goes = elim (r.only other goes) [
    | inl before ↦ before
    | inr after ↦ by after.0 after.1
  ]
    where
      by : (more : List Entry) → r.entries ++ more ≡ other → IsPrefix other r.entries
      by [] is = ([], append-nil other ∙ sym (sym (append-nil r.entries) ∙ is))
      by (entry ∷ more) is = absurd (none scene r.entries stands entry (next_can more entry (subst (λ es. GoesWith scene es behind) (sym is) goes)))

  -- a line was taken
  pub went_on : (after : List ℕ) (new : Actors) (t : State) (made remade : ℕ) → TookLine k rest after actors new s t made remade → Reached scene behind after new t (k + 1)
  went_on after new t made remade took = record {
    entries = r.entries ++ took.entry ∷ [];
    lawful = r.lawful;
    names_are = took.same.names ∙ r.names_are;
    scripts_are = took.same.scripts ∙ r.scripts_are;
    kept = subst (λ cs. PlacesFit cs new.places.items (r.entries ++ took.entry ∷ [])) (sym took.same.scripts) (took.kept r.entries r.kept);
    legal = legal_more (opening scene) r.entries took.entry r.legal (subst (λ u. step_entry u took.entry.event ≡ Some took.entry) r.state_is took.step_is);
    state_is = took.state_is ∙ ap (λ u. next_state u took.entry.event) r.state_is ∙ sym (state_more (opening scene) r.entries took.entry);
    count_is = omega (arith, length-append r.entries (took.entry ∷ []), r.count_is);
    behind_is = r.behind_is ∙ (ap (λ text. lines scene r.entries ++ text) (took.line_is ∙ ap (λ names. lined (entry_words names k took.entry) ++ after) r.names_are)
        ∙ (sym (append_assoc (lines scene r.entries) (lined (entry_words (actor_names scene) k took.entry)) after)
        ∙ ap (λ text. text ++ after) (ap (λ line. lines scene r.entries ++ line) (sym (append-nil (lined (entry_words (actor_names scene) k took.entry))))
        ∙ sym (lines_split (actor_names scene) 0 r.entries (took.entry ∷ []) k (omega (arith, r.count_is))))));
    only = λ other goes. elim (r.only other goes) [
      | inl before ↦ inl (before.0 ++ took.entry ∷ [], sym (append_assoc other before.0 (took.entry ∷ [])) ∙ ap (λ es. es ++ took.entry ∷ []) before.1)
      | inr later ↦ by other goes later.0 later.1
    ];
  }
    where
      by : (other : List Entry) → GoesWith scene other behind → (more : List Entry) → r.entries ++ more ≡ other
          → IsPrefix other (r.entries ++ took.entry ∷ []) ⊎ IsPrefix (r.entries ++ took.entry ∷ []) other
      by other goes [] is = inl (took.entry ∷ [], ap (λ es. es ++ took.entry ∷ []) (sym (sym (append-nil r.entries) ∙ is)))
      by other goes (entry ∷ more) is =
          let same : entry ≡ took.entry = took.only scene r.entries stands entry (next_can more entry (subst (λ es. GoesWith scene es behind) (sym is) goes)) in
          inr (more, append_assoc r.entries (took.entry ∷ []) more ∙ ap (λ e. r.entries ++ e ∷ more) (sym same) ∙ is)

  -- At the end of the entries.

  module _ (none : NoLine k rest actors s) (text first : List ℕ) (text_is : text ≡ first ++ behind) (behind_of : behind ≡ behind_first_line text) where
    -- what is behind the first line of a report
    report_behind : (other : List Entry) → text ≡ report scene other History → behind ≡ lines scene other ++ last scene other
    report_behind other is = behind_of ∙ ap behind_first_line (is ∙ report_parts scene other) ∙ behind_head (length other) (lines scene other ++ last scene other)

    report_goes : (other : List Entry) → IsReportOf scene other text → GoesWith scene other behind
    report_goes other of = record {
      legal = of.history.legal;
      follows = of.history.whole.follows;
      begins = (last scene other, sym (report_behind other of.report_is));
    }

    same_history : (other : List Entry) → IsReportOf scene other text → other ≡ r.entries
    same_history other of = let before = stopped none other (report_goes other of) in by before.0 before.1
      where
        by : (more : List Entry) → other ++ more ≡ r.entries → other ≡ r.entries
        by [] is = sym (append-nil other) ∙ is
        by (entry ∷ more) is =
            let n : ℕ = length other in
            let lines_are : lines scene r.entries ≡ lines scene other ++ text_of (entry_lines (actor_names scene) n (entry ∷ more)) =
            ap (lines scene) (sym is) ∙ lines_split (actor_names scene) 0 other (entry ∷ more) n (omega arith) in
            let cut : last scene other ≡ text_of (entry_lines (actor_names scene) n (entry ∷ more)) ++ rest =
            append_cancel_left (lines scene other) _ _ (sym (report_behind other of.report_is) ∙ (r.behind_is ∙ (ap (λ text. text ++ rest) lines_are ∙ append_assoc (lines scene other) _ rest))) in
            absurd (no_entry (actor_names scene) n entry (text_of (entry_lines (actor_names scene) (n + 1) more) ++ rest) (end_facts (state_after (opening scene) other))
            (cut ∙ append_assoc (lined (entry_words (actor_names scene) n entry)) (text_of (entry_lines (actor_names scene) (n + 1) more)) rest))

    begins_with : BeginsWith scene r.entries text
    begins_with = record {
      legal = r.legal;
      follows = follows_of (scripts_of scene) r.entries actors r.scripts_are r.kept;
      lines = (rest, sym r.behind_is ∙ behind_of);
    }

    goes_with : (other : List Entry) → BeginsWith scene other text → GoesWith scene other behind
    goes_with other b = record { legal = b.legal; follows = b.follows; begins = (b.lines.0, b.lines.1 ∙ sym behind_of) }

    pub is_yes : IsEnd s k first rest → IsYes scene text k
    is_yes e = record {
      entries = r.entries;
      report_of = record {
        history = record {
          legal = r.legal;
          whole = record { follows = follows_of (scripts_of scene) r.entries actors r.scripts_are r.kept; ended = subst (λ t. is_at_end t ≡ true) r.state_is e.over };
        };
        report_is = text_is ∙ (ap (λ line. line ++ behind) (e.first_is ∙ ap head (sym r.count_is)) ∙ (ap (λ more. head (length r.entries) ++ more) (r.behind_is
            ∙ ap (λ line. lines scene r.entries ++ line) (e.last_is ∙ ap (λ t. lined (end_words (end_facts t))) r.state_is)) ∙ sym (report_parts scene r.entries)));
      };
      count_is = r.count_is;
      only = same_history;
    }

    pub is_no : (IsEnd s k first rest → ⊥) → IsNo scene text k
    is_no unfinished = record {
      none = λ other of. unfinished (ends_as other of (same_history other of));
      entries = r.entries;
      begins = begins_with;
      count_is = r.count_is;
      greatest = λ other b. let before = stopped none other (goes_with other b) in omega (arith, length-append other before.0, ap length before.1, r.count_is);
    }
      where
        ends_as : (other : List Entry) → IsReportOf scene other text → other ≡ r.entries → IsEnd s k first rest
        ends_as other of same = record {
          first_is = append_cancel_right first (head k) behind (sym text_is ∙ (of.report_is ∙ (report_parts scene other
              ∙ (ap (λ more. head (length other) ++ more) (sym (report_behind other of.report_is)) ∙ ap (λ n. head n ++ behind) (ap length same ∙ r.count_is)))));
          last_is = append_cancel_left (lines scene r.entries) rest (lined (end_words (end_facts s))) (sym r.behind_is ∙ (report_behind other of.report_is
              ∙ (ap (λ es. lines scene es ++ last scene es) same ∙ ap (λ t. lines scene r.entries ++ lined (end_words (end_facts t))) (sym r.state_is))));
          over = subst (λ t. is_at_end t ≡ true) (sym r.state_is) (subst (λ es. is_at_end (state_after (opening scene) es) ≡ true) same of.history.whole.ended);
        }
