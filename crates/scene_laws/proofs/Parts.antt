-- Lines and words are parts of what they were cut from: none is longer, and each word takes a byte.
use Rattle.std.proofs.Common.{◌≡◌, ℕ, ◌+◌, ◌-◌, ◌<◌, ◌≤◌, Bool, true, false, cond, List, [], ◌∷◌, length, take, arith}
use Rattle.std.specs.Prelude.{◌==◌, slice_index}
use Rattle.std.specs.List.{filter, slice_split, onto_first}
use Rattle.std.specs.Str.Lines.{strip_carriage_return}
use Rattle.std.proofs.lemmas.Bool.{lt-ltb}
use Rattle.std.proofs.lemmas.List.{length-take}
use Rattle.script_lines.specs.Texts.{is_blank, is_some_word, words_of, lines_between, lines_of}

-- ---- words

some : (word : List ℕ) (more : List (List ℕ)) → 0 < length word → length (filter is_some_word (word ∷ more)) ≡ length (filter is_some_word more) + 1
some word more h =
    let e : is_some_word word ≡ true = lt-ltb 0 (length word) h in
    rw e (omega arith)

-- a byte in front of the first part makes one word more at most
longer_first : (byte : ℕ) (parts : List (List ℕ)) → length (filter is_some_word (onto_first byte parts)) ≤ length (filter is_some_word parts) + 1
longer_first byte [] = omega (arith, some (byte ∷ []) [] (omega arith))
longer_first byte ([] ∷ parts) = omega (arith, some (byte ∷ []) parts (omega arith))
longer_first byte ((b ∷ bs) ∷ parts) = omega (arith, some (byte ∷ b ∷ bs) parts (omega arith), some (b ∷ bs) parts (omega arith))

split_few : (p : ℕ → Bool) (bytes : List ℕ) → length (filter is_some_word (slice_split p bytes)) ≤ length bytes
split_few p [] = omega arith
split_few p (b ∷ bs) = elim (p b) as (λ t. length (filter is_some_word (cond t ([] ∷ slice_split p bs) (onto_first b (slice_split p bs)))) ≤ length (b ∷ bs)) [
  | true ↦ omega (arith, split_few p bs)
  | false ↦ omega (arith, split_few p bs, longer_first b (slice_split p bs))
]

pub words_few : (line : List ℕ) → length (words_of line) ≤ length line
words_few line = split_few is_blank line

-- ---- lines

abbrev pub bytes_in : List (List ℕ) → ℕ
bytes_in [] = 0
bytes_in (part ∷ parts) = length part + bytes_in parts

longer_by_one : (byte : ℕ) (parts : List (List ℕ)) → bytes_in (onto_first byte parts) ≡ bytes_in parts + 1
longer_by_one byte [] = omega arith
longer_by_one byte (part ∷ parts) = omega arith

split_short : (p : ℕ → Bool) (bytes : List ℕ) → bytes_in (slice_split p bytes) ≤ length bytes
split_short p [] = omega arith
split_short p (b ∷ bs) = elim (p b) as (λ t. bytes_in (cond t ([] ∷ slice_split p bs) (onto_first b (slice_split p bs))) ≤ length (b ∷ bs)) [
  | true ↦ omega (arith, split_short p bs)
  | false ↦ omega (arith, split_short p bs, longer_by_one b (slice_split p bs))
]

stripped : (line : List ℕ) → length (strip_carriage_return line) ≤ length line
stripped line = elim (slice_index line (length line - 1) == 13) as (λ t. length (cond t (take (length line - 1) line) line) ≤ length line) [
  | true ↦ omega (arith, length-take (length line - 1) line)
  | false ↦ omega arith
]

between_short : (parts : List (List ℕ)) → bytes_in (lines_between parts) ≤ bytes_in parts
between_short [] = omega arith
between_short ([] ∷ []) = omega arith
between_short ((b ∷ bs) ∷ []) = omega (arith, stripped (b ∷ bs))
between_short (part ∷ next ∷ parts) = omega (arith, stripped part, between_short (next ∷ parts))

pub lines_short : (bytes : List ℕ) → bytes_in (lines_of bytes) ≤ length bytes
unfolding lines_of
lines_short bytes = omega (arith, between_short (slice_split (λ byte. byte == 10) bytes), split_short (λ byte. byte == 10) bytes)
