-- The words after the program's name, read from the left.
use Rattle.std.specs.Prelude.{ℕ, Bool, false, List, [], ◌∷◌, ◌==◌, Option, Some, None, bytes_eq, codes, drop, take, if◌then◌else◌}

-- What a word is that stands before the end of the options.
pub data Word : Type 0 where
  -- `--`: no later word is an option
  ends : Word
  -- `--form`: the next word is the form, whatever it is
  form_follows : Word
  -- `--form=V`
  form : List ℕ → Word
  -- any other word of two or more bytes that begins with `-`
  unknown : Word
  positional : Word

-- begins with `-`, and goes on
abbrev pub is_option : List ℕ → Bool
is_option [] = false
is_option (byte ∷ []) = false
is_option (byte ∷ next ∷ rest) = byte == 45

abbrev pub word_of : List ℕ → Word
word_of word = if bytes_eq word (codes "--") then ends
    else if bytes_eq word (codes "--form") then form_follows
    else if bytes_eq (take 7 word) (codes "--form=") then form (drop 7 word)
    else if is_option word then unknown
    else positional

-- the forms and the other words, in order
pub record Spoken : Type 0 where
  pub forms : List (List ℕ)
  pub words : List (List ℕ)

abbrev pub with_form : List ℕ → Option Spoken → Option Spoken
with_form value None = None
with_form value (Some spoken) = Some (record { forms = value ∷ spoken.forms; words = spoken.words })

abbrev pub with_word : List ℕ → Option Spoken → Option Spoken
with_word word None = None
with_word word (Some spoken) = Some (record { forms = spoken.forms; words = word ∷ spoken.words })

-- what is spoken, where every option is one that there is, and has its value
unfoldable mutual
  pub spoken : List (List ℕ) → Option Spoken
  spoken [] = Some (record { forms = []; words = [] })
  spoken (word ∷ rest) = elim (word_of word) as (λ _. Option Spoken) [
    | ends ↦ Some (record { forms = []; words = rest })
    | form_follows ↦ form_spoken rest
    | form value ↦ with_form value (spoken rest)
    | unknown ↦ None
    | positional ↦ with_word word (spoken rest)
  ]

  pub form_spoken : List (List ℕ) → Option Spoken
  form_spoken [] = None
  form_spoken (value ∷ rest) = with_form value (spoken rest)
