-- A text is a list of lines, and a line is a list of words.
use Rattle.std.specs.Prelude.{ℕ, List, [], ◌∷◌, ◌++◌, codes, decimal, drop, map}
use Rattle.std.specs.List.{flat_map}
use Rattle.std.specs.Int.{w128, to_be_bytes}
use Rattle.hex.specs.Hex.{encode_lower}
use Rattle.uuid.specs.Text.{hyphenated_text, lower}

abbrev pub blank : ℕ
blank = 32

abbrev pub line_end : ℕ
line_end = 10

-- each word behind a blank
abbrev pub spelled : List (List ℕ) → List ℕ
spelled words = flat_map (λ word. blank ∷ word) words

-- a word and the number that it names, a blank before each
abbrev pub named : List ℕ → ℕ → List ℕ
named name number = (blank ∷ name) ++ (blank ∷ decimal number)

-- the words of a line with a blank between them, and the line's end
unfoldable pub lined : List (List ℕ) → List ℕ
lined words = drop 1 (spelled words) ++ line_end ∷ []

-- bytes without the first one, where more follow it
abbrev pub behind_first : List ℕ → List ℕ
behind_first [] = []
behind_first (byte ∷ []) = byte ∷ []
behind_first (byte ∷ next ∷ bytes) = next ∷ bytes

-- the lines one behind the other
abbrev pub text_of : List (List (List ℕ)) → List ℕ
text_of lines = flat_map lined lines

-- bytes as lower-case hexadecimal digits; none at all are a dash
abbrev pub hex_word : List ℕ → List ℕ
hex_word [] = codes "-"
hex_word (byte ∷ bytes) = encode_lower (byte ∷ bytes)

-- a UUID in its hyphenated form, in lower case (RFC 9562)
abbrev pub uuid_word : ℕ → List ℕ
uuid_word uuid = hyphenated_text lower (to_be_bytes w128 uuid)

-- handles behind a word that leads them; where there are none, the word is left out
abbrev pub handle_words : List ℕ → List ℕ → List (List ℕ)
handle_words leader [] = []
handle_words leader (handle ∷ handles) = leader ∷ map decimal (handle ∷ handles)
