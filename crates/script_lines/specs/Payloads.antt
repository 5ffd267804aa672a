-- The bytes that a word spells.
use Rattle.std.specs.Prelude.{ℕ, List, [], ◌∷◌, ◌==◌, length, drop, replicate, nat_le, nat_eq, codes, Result, Ok, Err, if◌then◌else◌}
use Rattle.std.specs.List.{slice_split, starts_with}
use Rattle.hex.specs.Hex.{decode_of}
use Rattle.hex.specs.declared.error.FromHexError.{FromHexError}
use Rattle.script_lines.specs.declared.fault.SceneKind.{SceneKind}
use Rattle.script_lines.specs.declared.fault.SceneKind.TheVariants.{BadWords}
use Rattle.script_lines.specs.Gives.{◌>>=◌}
use Rattle.script_lines.specs.Numbers.{number_within}

-- no word spells more bytes
abbrev pub most_bytes : ℕ
most_bytes = 65536

abbrev pub few_bytes : List ℕ → Result (List ℕ) SceneKind
few_bytes bytes = if nat_le (length bytes) most_bytes then Ok bytes else Err BadWords

abbrev pub decoded : Result (List ℕ) FromHexError → Result (List ℕ) SceneKind
decoded (Ok bytes) = few_bytes bytes
decoded (Err fault) = Err BadWords

unfoldable pub hex_bytes : List ℕ → Result (List ℕ) SceneKind
hex_bytes digits = decoded (decode_of digits)

-- `N:B`: so many times the byte of this value
unfoldable pub filled : List (List ℕ) → Result (List ℕ) SceneKind
filled (count ∷ value ∷ []) = do
  count ← number_within 0 most_bytes count
  value ← number_within 0 255 value
  Ok (replicate count value)
filled parts = Err BadWords

-- `hex:`, `text:` or `fill:`
unfoldable pub bytes_word : List ℕ → Result (List ℕ) SceneKind
bytes_word word = if starts_with nat_eq word (codes "hex:") then hex_bytes (drop 4 word)
    else if starts_with nat_eq word (codes "text:") then few_bytes (drop 5 word)
    else if starts_with nat_eq word (codes "fill:") then filled (slice_split (λ byte. byte == 58) (drop 5 word))
    else Err BadWords
