-- The text of a line whose words were written, and which was ended.
use Rattle.std.proofs.Common.{◌≡◌, List, [], ◌∷◌, ◌++◌, ℕ, Result, refl, ap, ◌∙◌}
use Rattle.std.specs.Prelude.{OnOk}
use Rattle.std.proofs.lemmas.Result.{on_ok_weaker}
use Rattle.report_text.specs.Lines.{behind_first, blank, line_end, lined, spelled}

behind_blank : (rest : List ℕ) → behind_first (blank ∷ (rest ++ line_end ∷ [])) ≡ rest ++ line_end ∷ []
behind_blank [] = refl
behind_blank (byte ∷ rest) = refl

line_is : (words : List (List ℕ)) → behind_first (spelled words ++ line_end ∷ []) ≡ lined words
unfolding lined
line_is [] = refl
line_is (word ∷ words) = behind_blank (word ++ spelled words)

-- `r` answers the line's end, which left `new`
pub ended_line : {E : Type 0} (r : Result (Unit {0}) E) (new line cleared : List ℕ) (words : List (List ℕ)) → line ≡ cleared ++ spelled words → cleared ≡ []
    → OnOk r (new ≡ line ++ line_end ∷ []) → OnOk r (behind_first new ≡ lined words)
ended_line r new line cleared words is none ended =
    on_ok_weaker r (λ new_is. ap behind_first (new_is ∙ ap (λ text. text ++ line_end ∷ []) (is ∙ ap (λ text. text ++ spelled words) none)) ∙ line_is words) ended
