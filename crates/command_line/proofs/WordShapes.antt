-- What a word of each kind looks like to clap.
use Rattle.std.proofs.Common.{◌≡◌, ℕ, List, [], ◌∷◌, ◌++◌, Some, None, Bool, true, false, take, drop, codes, refl, ap, sym, subst, ◌∙◌}
use Rattle.std.specs.Prelude.{◌==◌, bytes_eq, if◌then◌else◌}
use Rattle.std.proofs.lemmas.Slice.Eq.{bytes_eq-Decides}
use Rattle.std.proofs.lemmas.List.{take-append-drop}
use Rattle.clap.specs.Lexer.{long_of, short_of}
use Rattle.command_line.specs.Words.{Word, ends, form_follows, form, unknown, positional, word_of, is_option}

-- what the tests of `word_of` told
abbrev pub IsReadAs : Bool → Bool → Bool → Bool → List ℕ → Word → Type 0
IsReadAs is_end is_form has_form is_other value ends = is_end ≡ true
IsReadAs is_end is_form has_form is_other value form_follows = is_form ≡ true
IsReadAs is_end is_form has_form is_other value (form given) = (has_form ≡ true) × (given ≡ value)
IsReadAs is_end is_form has_form is_other value unknown = (is_end ≡ false) × (is_form ≡ false) × (has_form ≡ false) × (is_other ≡ true)
IsReadAs is_end is_form has_form is_other value positional = (is_end ≡ false) × (is_other ≡ false)

told : (is_end is_form has_form is_other : Bool) (value : List ℕ) (kind : Word)
    → (if is_end then ends else if is_form then form_follows else if has_form then form value else if is_other then unknown else positional) ≡ kind
    → IsReadAs is_end is_form has_form is_other value kind
told true is_form has_form is_other value kind e = subst (λ k. IsReadAs true is_form has_form is_other value k) e refl
told false true has_form is_other value kind e = subst (λ k. IsReadAs false true has_form is_other value k) e refl
told false false true is_other value kind e = subst (λ k. IsReadAs false false true is_other value k) e (refl, refl)
told false false false true value kind e = subst (λ k. IsReadAs false false false true value k) e (refl, refl, refl, refl)
told false false false false value kind e = subst (λ k. IsReadAs false false false false value k) e (refl, refl)

pub word_told : (word : List ℕ) (kind : Word) → word_of word ≡ kind
    → IsReadAs (bytes_eq word (codes "--")) (bytes_eq word (codes "--form")) (bytes_eq (take 7 word) (codes "--form=")) (is_option word) (drop 7 word) kind
word_told word kind e = told _ _ _ _ _ kind e

pub same_bytes : (xs ys : List ℕ) → bytes_eq xs ys ≡ true → xs ≡ ys
same_bytes xs ys e = (bytes_eq-Decides xs ys).0 e

pub form_and_value : (word : List ℕ) → bytes_eq (take 7 word) (codes "--form=") ≡ true → word ≡ codes "--form=" ++ drop 7 word
form_and_value word e = sym (take-append-drop 7 word) ∙ ap (λ xs. xs ++ drop 7 word) (same_bytes _ _ e)

pub long_of_form : (value : List ℕ) → long_of (codes "--form=" ++ value) ≡ Some (codes "form", Some value)
long_of_form value = refl

-- ---- a word that is no option

pub record IsPlain (word : List ℕ) : Type 0 where
  pub no_end : bytes_eq word (codes "--") ≡ false
  pub no_long : long_of word ≡ None
  pub no_short : short_of word ≡ None

lone : (byte : ℕ) (hyphen : Bool) → (byte == 45) ≡ hyphen → IsPlain (byte ∷ [])
lone byte true e = record { no_end = rw e refl; no_long = rw e refl; no_short = rw e refl }
lone byte false e = record { no_end = rw e refl; no_long = rw e refl; no_short = rw e refl }

pub is_plain : (word : List ℕ) → is_option word ≡ false → IsPlain word
is_plain [] e = record { no_end = refl; no_long = refl; no_short = refl }
is_plain (byte ∷ []) e = lone byte _ refl
is_plain (byte ∷ next ∷ rest) e = record { no_end = rw e refl; no_long = rw e refl; no_short = rw e refl }
