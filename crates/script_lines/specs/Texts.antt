-- Lines and words.
use Rattle.std.specs.Prelude.{ℕ, Bool, true, false, List, [], ◌∷◌, ◌==◌, ◌&&◌, ◌||◌, length, nat_lt, nat_le, filter, if◌then◌else◌}
use Rattle.std.specs.List.{slice_split}
use Rattle.std.specs.Str.Lines.{strip_carriage_return}

-- a space or a tab
abbrev pub is_blank : ℕ → Bool
is_blank byte = (byte == 32) || (byte == 9)

-- a byte that may stand in a line
abbrev pub is_text_byte : ℕ → Bool
is_text_byte byte = (byte == 9) || (nat_le 32 byte && nat_le byte 126)

-- each line without the LF that ends it and one CR before that; what follows the last LF is a line if it has a byte
abbrev pub last_line : List ℕ → List (List ℕ)
last_line [] = []
last_line (byte ∷ bytes) = strip_carriage_return (byte ∷ bytes) ∷ []

abbrev pub lines_between : List (List ℕ) → List (List ℕ)
lines_between [] = []
lines_between (part ∷ []) = last_line part
lines_between (part ∷ next ∷ parts) = strip_carriage_return part ∷ lines_between (next ∷ parts)

unfoldable pub lines_of : List ℕ → List (List ℕ)
lines_of bytes = lines_between (slice_split (λ byte. byte == 10) bytes)

abbrev pub is_some_word : List ℕ → Bool
is_some_word word = nat_lt 0 (length word)

-- what stands between blanks
abbrev pub words_of : List ℕ → List (List ℕ)
words_of line = filter is_some_word (slice_split is_blank line)

abbrev pub is_comment : List ℕ → Bool
is_comment [] = false
is_comment (byte ∷ bytes) = byte == 35

-- a line of blanks, or one whose first byte that is no blank is `#`
abbrev pub is_skipped : List (List ℕ) → Bool
is_skipped [] = true
is_skipped (word ∷ words) = is_comment word

unfoldable pub without_blanks : List ℕ → List ℕ
without_blanks [] = []
without_blanks (byte ∷ bytes) = if is_blank byte then without_blanks bytes else byte ∷ bytes

unfoldable pub without_word : List ℕ → List ℕ
without_word [] = []
without_word (byte ∷ bytes) = if is_blank byte then byte ∷ bytes else without_word bytes

-- what follows the line's first two words, without the blanks before it
unfoldable pub after_two_words : List ℕ → List ℕ
after_two_words line = without_blanks (without_word (without_blanks (without_word (without_blanks line))))
