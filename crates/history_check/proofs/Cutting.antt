-- The input of a check, cut at its first line `report`.
use Rattle.std.proofs.Common.{◌≡◌, ◌<◌, ◌≤◌, ℕ, ◌+◌, ◌-◌, Bool, true, false, List, [], ◌∷◌, ◌++◌, length, take, drop, refl, sym, ap, ap₂, ◌∙◌, subst, arith, append_assoc, append-nil, length-append}
use Rattle.std.specs.Prelude.{◌==◌, if◌then◌else◌}
use Rattle.std.specs.List.{concat}
use Rattle.std.proofs.lemmas.List.{append_cancel_right, drop-drop, drop_all, length-drop, take-append-drop, take_all}
use Rattle.std.proofs.Math.Seq.{drop-append_seam}
use Rattle.report_text.specs.Lines.{line_end}
use Rattle.history_check.specs.Inputs.{ended_lines, onto_first, is_report_line, front_lines, back_lines, scene_part, report_part}
use Rattle.history_check.specs.Verdicts.{behind_first_line}

-- the first line, with the line feed that ends it
abbrev front_line : List ℕ → List ℕ
front_line [] = []
front_line (byte ∷ text) = if byte == line_end then byte ∷ [] else byte ∷ front_line text

both : (text : List ℕ) → front_line text ++ behind_first_line text ≡ text
both [] = refl
both (byte ∷ text) = both_by (byte == line_end) byte text (both text)
  where
    both_by : (ends : Bool) (byte : ℕ) (text : List ℕ) → front_line text ++ behind_first_line text ≡ text
        → (if ends then byte ∷ [] else byte ∷ front_line text) ++ (if ends then text else behind_first_line text) ≡ byte ∷ text
    both_by true byte text is = refl
    both_by false byte text is = ap (λ rest. byte ∷ rest) is

lines_step : (byte : ℕ) (text : List ℕ) → ended_lines (byte ∷ text) ≡ front_line (byte ∷ text) ∷ ended_lines (behind_first_line (byte ∷ text))
unfolding ended_lines
lines_step byte [] = by (byte == line_end)
  where
    by : (ends : Bool) → (if ends then (byte ∷ []) ∷ [] else (byte ∷ []) ∷ []) ≡ (if ends then byte ∷ [] else byte ∷ []) ∷ ended_lines (if ends then [] else [])
    by true = refl
    by false = refl
lines_step byte (next ∷ text) = by (byte == line_end) (lines_step next text)
  where
    by : (ends : Bool) → ended_lines (next ∷ text) ≡ front_line (next ∷ text) ∷ ended_lines (behind_first_line (next ∷ text))
        → (if ends then (byte ∷ []) ∷ ended_lines (next ∷ text) else onto_first byte (ended_lines (next ∷ text)))
        ≡ (if ends then byte ∷ [] else byte ∷ front_line (next ∷ text)) ∷ ended_lines (if ends then (next ∷ text) else behind_first_line (next ∷ text))
    by true is = refl
    by false is = ap (onto_first byte) is

joined_first : (byte : ℕ) (lines : List (List ℕ)) → concat (onto_first byte lines) ≡ byte ∷ concat lines
joined_first byte [] = refl
joined_first byte (line ∷ lines) = refl

joined_by : (ends : Bool) (byte : ℕ) (text : List ℕ) → concat (ended_lines text) ≡ text
    → concat (if ends then (byte ∷ []) ∷ ended_lines text else onto_first byte (ended_lines text)) ≡ byte ∷ text
joined_by true byte text is = ap (λ rest. byte ∷ rest) is
joined_by false byte text is = joined_first byte (ended_lines text) ∙ ap (λ rest. byte ∷ rest) is

joined : (text : List ℕ) → concat (ended_lines text) ≡ text
unfolding ended_lines
joined [] = refl
joined (byte ∷ text) = joined_by (byte == line_end) byte text (joined text)

front_is : (byte : ℕ) (text line behind : List ℕ) → byte ∷ text ≡ line ++ behind → behind ≡ behind_first_line (byte ∷ text) → front_line (byte ∷ text) ≡ line
front_is byte text line behind parts is =
    append_cancel_right (front_line (byte ∷ text)) line behind (ap (λ b. front_line (byte ∷ text) ++ b) is ∙ (both (byte ∷ text) ∙ parts))

lines_of_rest : (rest line behind : List ℕ) → 0 < length rest → rest ≡ line ++ behind → behind ≡ behind_first_line rest → ended_lines rest ≡ line ∷ ended_lines behind
lines_of_rest [] line behind some parts is = absurd (omega (arith, some))
lines_of_rest (byte ∷ text) line behind some parts is =
    lines_step byte text ∙ ap₂ (λ first rest. first ∷ ended_lines rest) (front_is byte text line behind parts is) (sym is)

first_has_byte : (byte : ℕ) (text : List ℕ) → 0 < length (front_line (byte ∷ text))
first_has_byte byte text = by (byte == line_end)
  where
    by : (ends : Bool) → 0 < length (if ends then byte ∷ [] else byte ∷ front_line text)
    by true = omega arith
    by false = omega arith

some_front : (rest line behind : List ℕ) → 0 < length rest → rest ≡ line ++ behind → behind ≡ behind_first_line rest → 0 < length line
some_front [] line behind some parts is = absurd (omega (arith, some))
some_front (byte ∷ text) line behind some parts is = subst (λ l. 0 < length l) (front_is byte text line behind parts is) (first_has_byte byte text)

-- In front of this place no line is `report`.
pub record NoneBefore (input : List ℕ) (at : ℕ) : Type 0 where
  pub within : at ≤ length input
  pub scene : scene_part input ≡ take at input ++ scene_part (drop at input)
  pub report : report_part input ≡ report_part (drop at input)

module _ (input : List ℕ) (at : ℕ) (before : NoneBefore input at) (line behind : List ℕ) (below : at < length input)
    (parts_are : take (length input - at) (drop at input) ≡ line ++ behind) (rest_is : behind ≡ behind_first_line (take (length input - at) (drop at input))) where
  whole : take (length input - at) (drop at input) ≡ drop at input
  whole = take_all (length input - at) (drop at input) (omega (arith, length-drop at input))

  parts : drop at input ≡ line ++ behind
  parts = sym whole ∙ parts_are

  behind_is : behind ≡ behind_first_line (drop at input)
  behind_is = rest_is ∙ ap behind_first_line whole

  lines_here : ended_lines (drop at input) ≡ line ∷ ended_lines behind
  lines_here = lines_of_rest (drop at input) line behind (omega (arith, below, length-drop at input)) parts behind_is

  pub found_scene : is_report_line line ≡ true → take at input ≡ scene_part input
  unfolding scene_part
  found_scene is = sym (append-nil (take at input)) ∙ sym (before.scene ∙ ap (λ s. take at input ++ s) (ap (λ ls. concat (front_lines ls)) lines_here ∙ rw is refl))

  pub found_report : is_report_line line ≡ true → behind ≡ report_part input
  unfolding report_part
  found_report is = sym (before.report ∙ (ap (λ ls. concat (back_lines ls)) lines_here ∙ (rw is refl ∙ joined behind)))

  pub some_bytes : 0 < length line
  some_bytes = some_front (drop at input) line behind (omega (arith, below, length-drop at input)) parts behind_is

  past : drop (at + length line) input ≡ behind
  past = sym (drop-drop (length line) at input) ∙ (ap (λ rest. drop (length line) rest) parts ∙ drop-append_seam line behind)

  pub none_more : is_report_line line ≡ false → NoneBefore input (at + length line)
  unfolding scene_part report_part
  none_more is = record {
    within = omega (arith, below, length-drop at input, ap length parts, length-append line behind);
    scene = before.scene ∙ (ap (λ s. take at input ++ s) (ap (λ ls. concat (front_lines ls)) lines_here ∙ rw is refl)
        ∙ (sym (append_assoc (take at input) line (scene_part behind))
        ∙ ap₂ (λ front back. front ++ scene_part back) (sym (taken_more)) (sym past)));
    report = before.report ∙ (ap (λ ls. concat (back_lines ls)) lines_here ∙ (rw is refl ∙ ap report_part (sym past)));
  }
    where
      taken_more : take (at + length line) input ≡ take at input ++ line
      taken_more = append_cancel_right (take (at + length line) input) (take at input ++ line) behind
          (ap (λ rest. take (at + length line) input ++ rest) (sym past) ∙ (take-append-drop (at + length line) input
          ∙ (sym (take-append-drop at input) ∙ (ap (λ rest. take at input ++ rest) parts ∙ sym (append_assoc (take at input) line behind)))))

pub all_scene : (input : List ℕ) (at : ℕ) → NoneBefore input at → length input ≤ at → input ≡ scene_part input
unfolding scene_part ended_lines
all_scene input at before past =
    sym (before.scene ∙ (ap₂ (λ front rest. front ++ scene_part rest) (take_all at input past) (drop_all at input past) ∙ append-nil input))

pub no_report : (input : List ℕ) (at : ℕ) → NoneBefore input at → length input ≤ at → [] ≡ report_part input
unfolding report_part ended_lines
no_report input at before past = sym (before.report ∙ ap report_part (drop_all at input past))
