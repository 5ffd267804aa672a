-- A report is its body and the last line.
use Rattle.std.proofs.Common.{◌≡◌, ◌<◌, ℕ, List, [], ◌∷◌, ◌++◌, length, refl, sym, ap, ◌∙◌, append-nil, arith, length-append, subst}
use Rattle.std.proofs.lemmas.Grind.{flat_map-append}
use Rattle.kernel_values.specs.declared.entry.Entry.{Entry}
use Rattle.kernel_values.specs.declared.entry.EndFacts.{EndFacts}
use Rattle.kernel_values.specs.SceneLaw.{SceneValue}
use Rattle.report_text.specs.declared.form.Form.{Form}
use Rattle.report_text.specs.Names.{actor_names}
use Rattle.report_text.specs.Forms.{body_lines, end_words, report_told}
use Rattle.report_text.specs.Lines.{lined, text_of}
use Rattle.report_text.proofs.Printed.{lined_some}

pub last_line : (lines : List (List (List ℕ))) (words : List (List ℕ)) → text_of (lines ++ words ∷ []) ≡ text_of lines ++ lined words
last_line lines words = flat_map-append lined lines (words ∷ []) ∙ ap (λ text. text_of lines ++ text) (append-nil (lined words))

pub report_is : (scene : SceneValue) (names : List (List ℕ)) (entries : List Entry) (facts : List EndFacts) (end : EndFacts) (form : Form)
    → names ≡ actor_names scene
    → report_told scene entries facts end form ≡ text_of (body_lines names entries facts form) ++ lined (end_words end)
unfolding report_told
report_is scene names entries facts end form is =
    ap (λ known. text_of (body_lines known entries facts form ++ end_words end ∷ [])) (sym is)
    ∙ last_line (body_lines names entries facts form) (end_words end)

some_behind : (a b : List ℕ) → 0 < length b → 0 < length (a ++ b)
some_behind a b some = omega (arith, length-append a b)

pub report_some : (scene : SceneValue) (entries : List Entry) (facts : List EndFacts) (end : EndFacts) (form : Form) → 0 < length (report_told scene entries facts end form)
report_some scene entries facts end form =
    subst (λ text. 0 < length text) (sym (report_is scene (actor_names scene) entries facts end form refl))
    (some_behind (text_of (body_lines (actor_names scene) entries facts form)) (lined (end_words end)) (lined_some (end_words end)))
