-- The input of a check: a scene, a line `report`, and the report.
use Rattle.std.specs.Prelude.{ℕ, Bool, List, [], ◌∷◌, ◌==◌, ◌||◌, bytes_eq, codes, if◌then◌else◌}
use Rattle.std.specs.List.{concat}
use Rattle.report_text.specs.Lines.{line_end}

abbrev pub onto_first : ℕ → List (List ℕ) → List (List ℕ)
onto_first byte [] = (byte ∷ []) ∷ []
onto_first byte (line ∷ lines) = (byte ∷ line) ∷ lines

-- the lines of a text, each with the line feed that ends it; what follows the last line feed is a line where it has a byte
unfoldable pub ended_lines : List ℕ → List (List ℕ)
ended_lines [] = []
ended_lines (byte ∷ bytes) = if byte == line_end then (byte ∷ []) ∷ ended_lines bytes else onto_first byte (ended_lines bytes)

-- `report`, also with a carriage return at its end
abbrev pub is_report_line : List ℕ → Bool
is_report_line line = bytes_eq line (codes "report\n") || bytes_eq line (codes "report\r\n") || bytes_eq line (codes "report") || bytes_eq line (codes "report\r")

-- the lines in front of the first such line, and those behind it
abbrev pub front_lines : List (List ℕ) → List (List ℕ)
front_lines [] = []
front_lines (line ∷ lines) = if is_report_line line then [] else line ∷ front_lines lines

abbrev pub back_lines : List (List ℕ) → List (List ℕ)
back_lines [] = []
back_lines (line ∷ lines) = if is_report_line line then lines else back_lines lines

unfoldable pub scene_part : List ℕ → List ℕ
scene_part input = concat (front_lines (ended_lines input))

unfoldable pub report_part : List ℕ → List ℕ
report_part input = concat (back_lines (ended_lines input))
