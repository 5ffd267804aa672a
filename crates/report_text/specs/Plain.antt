-- Lines that can be told apart in a text: no word has a blank or a line's end in it, and no line is without a word.
use Rattle.std.specs.Prelude.{◌≢◌, ℕ, List, [], ◌∷◌}
use Rattle.std.specs.List.{AllByRecursion}
use Rattle.report_text.specs.Lines.{blank, line_end}

-- a byte that parts neither words nor lines
abbrev pub IsInner : ℕ → Type 0
IsInner byte = (byte ≢ blank) × (byte ≢ line_end)

abbrev pub IsWord : List ℕ → Type 0
IsWord word = AllByRecursion IsInner word

abbrev pub IsLine : List (List ℕ) → Type 0
IsLine [] = ⊥
IsLine (word ∷ words) = AllByRecursion IsWord (word ∷ words)
