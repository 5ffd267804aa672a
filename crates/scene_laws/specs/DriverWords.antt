-- The lines by which a client stays behind its driver.
use Rattle.std.specs.Prelude.{ℕ, Bool, true, false, not, ◌||◌, List, [], ◌∷◌, bytes_eq, codes}
use Rattle.script_lines.specs.Texts.{words_of}
use Rattle.script_lines.specs.declared.words.ClientWord.{ClientWord}
use Rattle.script_lines.specs.declared.words.ClientWord.TheVariants as word

-- all but `npoke` and `nkick`
abbrev pub is_driver_word : ClientWord → Bool
is_driver_word word.Poke = false
is_driver_word word.Kick = false
is_driver_word other = true

-- the same of a line's words as they are spelled, whatever line it is
abbrev pub begins_by_driver : List (List ℕ) → Bool
begins_by_driver [] = true
begins_by_driver (first ∷ words) = not (bytes_eq first (codes "npoke") || bytes_eq first (codes "nkick"))

abbrev pub is_driver_line : List ℕ → Bool
is_driver_line line = begins_by_driver (words_of line)
