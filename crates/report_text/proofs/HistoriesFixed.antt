-- A report in the history form fixes its history.
use Rattle.std.proofs.Common.{◌≡◌, ℕ, List, [], ◌∷◌, ◌++◌, length, refl, sym, ap, ◌∙◌, subst}
use Rattle.std.specs.Prelude.{codes, decimal, OnOk, Result, Ok, Err}
use Rattle.kernel_values.specs.SceneLaw.{SceneValue, IsLawfulScene}
use Rattle.kernel_values.specs.declared.entry.EndFacts.{EndFacts}
use Rattle.kernel_values.specs.declared.entry.Entry.{Entry}
use Rattle.kernel_types.specs.Facts.{end_facts}
use Rattle.kernel_types.specs.History.{state_after}
use Rattle.kernel_types.specs.Opening.{opening}
use Rattle.kernel_log.specs.Logs.{facts_along}
use Rattle.report_text.specs.declared.form.Form.{Form}
use Rattle.report_text.specs.declared.form.Form.TheVariants.{History}
use Rattle.report_text.specs.Forms.{report, report_told, end_words, entry_lines}
use Rattle.report_text.specs.Histories.{IsHistoryOf, TellsOnly}
use Rattle.report_text.specs.Lines.{blank, text_of}
use Rattle.report_text.specs.Names.{actor_names}
use Rattle.report_text.specs.Within.{AreWithin}
use Rattle.report_text.proofs.EntriesFixed.{entries_same}
use Rattle.report_text.proofs.Fixing.{words_end, led}
use Rattle.report_text.proofs.Lawful.{opening_of_scene, scripts_of_scene}
use Rattle.report_text.proofs.NamesApart.{actors_plain, actors_apart}
use Rattle.report_text.proofs.Scripted.{AreSpelled, whole_spelled}
use Rattle.report_text.proofs.WordsRead.{is_plain, word_by, plain_decimal}

-- what follows the first line
after_head : (m n : ℕ) (lines others : List (List (List ℕ)))
    → text_of ((codes "history" ∷ decimal m ∷ []) ∷ lines) ≡ text_of ((codes "history" ∷ decimal n ∷ []) ∷ others) → text_of lines ≡ text_of others
unfolding is_plain
after_head m n lines others same =
    let history = word_by (codes "history") refl in
    (words_end (codes "history" ∷ decimal m ∷ []) (codes "history" ∷ decimal n ∷ []) (text_of lines) (text_of others)
    (history, (word_by (decimal m) (plain_decimal m), tt)) (history, (word_by (decimal n) (plain_decimal n), tt))
    (sym (led (codes "history") (decimal m ∷ []) lines) ∙ ap (λ text. blank ∷ text) same ∙ led (codes "history") (decimal n ∷ []) others)).1

spelled_here : (scene : SceneValue) (entries : List Entry) → IsLawfulScene scene → IsHistoryOf scene entries → AreSpelled (length (actor_names scene)) entries
spelled_here scene entries lawful of = subst (λ n. AreSpelled n entries) (scripts_of_scene scene) (whole_spelled scene entries lawful of.whole)

-- whatever facts are told with the entries
told_only : (scene : SceneValue) (entries : List Entry) (facts : List EndFacts) (end : EndFacts) → IsLawfulScene scene → AreWithin entries → TellsOnly scene entries (report_told scene entries facts end History)
unfolding report report_told
told_only scene entries facts end lawful within of other of_other same =
    let names = actor_names scene in
    let last : EndFacts = end_facts (state_after (opening scene) other) in
    entries_same names (actors_plain scene lawful) (actors_apart scene lawful) (opening scene) 0 entries other end last (opening_of_scene scene) of.legal of_other.legal
    (spelled_here scene entries lawful of) within (spelled_here scene other lawful of_other)
    (after_head (length entries) (length other) (entry_lines names 0 entries ++ end_words end ∷ []) (entry_lines names 0 other ++ end_words last ∷ []) same)

pub told_fixed : (scene : SceneValue) (entries : List Entry) (facts : List EndFacts) (end : EndFacts) (form : Form) → IsLawfulScene scene → AreWithin entries → form ≡ History
    → TellsOnly scene entries (report_told scene entries facts end form)
told_fixed scene entries facts end form lawful within is = subst (λ (f : Form). TellsOnly scene entries (report_told scene entries facts end f)) (sym is) (told_only scene entries facts end lawful within)

pub histories_fixed : (scene : SceneValue) (entries : List Entry) → IsLawfulScene scene → AreWithin entries → TellsOnly scene entries (report scene entries History)
unfolding report
histories_fixed scene entries lawful within = told_only scene entries (facts_along (opening scene) entries) (end_facts (state_after (opening scene) entries)) lawful within

-- what is so whatever was answered
pub whatever : {P : Type 0} {X E : Type 0} (r : Result X E) → P → OnOk r P
whatever (Ok x) p = p
whatever (Err e) p = tt
