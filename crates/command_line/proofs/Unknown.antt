-- Clap refuses each word that begins with `-`, goes on, and is neither `--` nor the form.
use Rattle.std.proofs.Common.{◌≡◌, ℕ, List, [], ◌∷◌, ◌++◌, length, Some, None, Bool, true, false, take, codes, refl, ap, sym, subst, ◌∙◌, get_or, inl, inr, ◌⊎◌}
use Rattle.std.specs.Prelude.{◌==◌, bytes_eq, IsUtf8}
use Rattle.std.specs.Str.{chars}
use Rattle.std.specs.List.{before_first, after_first, position_or_len}
use Rattle.std.proofs.Math.Utf8.{encodes, encode}
use Rattle.std.proofs.lemmas.Str.{encodes-chars, IsUtf8-past_char}
use Rattle.std.proofs.lemmas.Bool.{eqb-true}
use Rattle.std.proofs.lemmas.Bool.Decides.{leb_tells}
use Rattle.std.proofs.lemmas.List.Sums.{split_at_first, passes_at_first}
use Rattle.std.proofs.lemmas.List.{take_all}
use Rattle.clap.specs.Lexer.{long_of, short_of}
use Rattle.clap.specs.Walk.{Text, Held, arg_by_long}
use Rattle.clap.specs.Faults.{flag_word_fault, flags_fault}
use Rattle.clap.specs.declared.error.kind.ErrorKind.TheVariants as kind
use Rattle.command_line.specs.Words.{is_option}
use Rattle.command_line.specs.Program.{form_id}
use Rattle.command_line.proofs.ClapApp.{rules}
use Rattle.command_line.proofs.WordShapes.{same_bytes}

abbrev is_equals : ℕ → Bool
is_equals byte = byte == 61

-- a name that stands before `=`, or at the end
name_of_form : (rest : List ℕ) → codes "form" ≡ before_first is_equals rest → (rest ≡ codes "form") ⊎ (bytes_eq (take 5 rest) (codes "form=") ≡ true)
name_of_form rest e = elim (leb_tells (length rest) (position_or_len is_equals rest)) [
  | inl all ↦ inl (let whole : take (position_or_len is_equals rest) rest ≡ rest = take_all _ rest all.1 in sym whole ∙ sym e)
  | inr part ↦ inr (
      let z = get_or rest (position_or_len is_equals rest) 0 in
      let passes : is_equals z ≡ true = passes_at_first is_equals rest 0 part.1 in
      let equals : z ≡ 61 = eqb-true z 61 passes in
      let parts : rest ≡ codes "form" ++ (61 ∷ after_first is_equals rest) = split_at_first is_equals rest 0 part.1
      ∙ ap (λ xs. xs ++ (z ∷ after_first is_equals rest)) (sym e) ∙ ap (λ b. codes "form" ++ (b ∷ after_first is_equals rest)) equals in
      ap (λ xs. bytes_eq (take 5 xs) (codes "form=")) parts
      )
]

no_such_long : (name : Text) → bytes_eq form_id name ≡ false → arg_by_long rules name ≡ None
no_such_long name e = rw e refl

pub record IsUnknown (word : List ℕ) : Type 0 where
  pub utf8 : IsUtf8 word
  pub no_end : bytes_eq word (codes "--") ≡ false
  pub no_form : bytes_eq word (codes "--form") ≡ false
  pub no_value : bytes_eq (take 7 word) (codes "--form=") ≡ false

begins : (x : ℕ) (xs ds : List ℕ) → encodes ds ≡ x ∷ xs → (c : ℕ) × (cs : List ℕ) × (ds ≡ c ∷ cs)
begins x xs [] e = absurd (cc)
begins x xs (d ∷ ds) e = (d, ds, refl)

-- no short option
no_bundle : (x : ℕ) (xs : List ℕ) (h : Held) → IsUtf8 (x ∷ xs) → flags_fault rules false (length (x ∷ xs)) (x ∷ xs) 0 h ≡ kind.UnknownArgument ∷ []
unfolding flags_fault
no_bundle x xs h utf8 = let first = begins x xs (chars (x ∷ xs)) (encodes-chars (x ∷ xs) utf8) in rw first.2 refl

short_fault : (x : ℕ) (xs : List ℕ) (h : Held) → h.skip ≡ 0 → IsUtf8 (45 ∷ x ∷ xs) → (x == 45) ≡ false
    → flag_word_fault rules false (long_of (45 ∷ x ∷ xs)) (45 ∷ x ∷ xs) h ≡ kind.UnknownArgument ∷ []
unfolding encode
short_fault x xs h none utf8 other =
    let no_long : long_of (45 ∷ x ∷ xs) ≡ None = rw other refl in
    let flags : short_of (45 ∷ x ∷ xs) ≡ Some (x ∷ xs) = rw other refl in
    rw (no_long, flags, none) (no_bundle x xs _ (IsUtf8-past_char (45 ∷ x ∷ xs) (x ∷ xs) 45 utf8 refl))

long_fault : (named : Bool) (y : ℕ) (ys : List ℕ) (h : Held) → bytes_eq form_id (before_first is_equals (y ∷ ys)) ≡ named → IsUnknown (45 ∷ 45 ∷ y ∷ ys)
    → flag_word_fault rules false (long_of (45 ∷ 45 ∷ y ∷ ys)) (45 ∷ 45 ∷ y ∷ ys) h ≡ kind.UnknownArgument ∷ []
long_fault false y ys h e unknown = rw e refl
long_fault true y ys h e unknown = elim (name_of_form (y ∷ ys) (same_bytes _ _ e)) [
  | inl form ↦ let same : bytes_eq (45 ∷ 45 ∷ y ∷ ys) (codes "--form") ≡ true = ap (λ xs. bytes_eq (45 ∷ 45 ∷ xs) (codes "--form")) form in let not = unknown.no_form in absurd (cc)
  | inr value ↦ let not : bytes_eq (take 5 (y ∷ ys)) (codes "form=") ≡ false = unknown.no_value in absurd (cc)
]

two_dashes : (xs : List ℕ) (h : Held) → IsUnknown (45 ∷ 45 ∷ xs) → flag_word_fault rules false (long_of (45 ∷ 45 ∷ xs)) (45 ∷ 45 ∷ xs) h ≡ kind.UnknownArgument ∷ []
two_dashes [] h unknown = let not = unknown.no_end in absurd (cc)
two_dashes (y ∷ ys) h unknown = long_fault _ y ys h refl unknown

one_dash : (second : Bool) (x : ℕ) (xs : List ℕ) (h : Held) → (x == 45) ≡ second → h.skip ≡ 0 → IsUnknown (45 ∷ x ∷ xs)
    → flag_word_fault rules false (long_of (45 ∷ x ∷ xs)) (45 ∷ x ∷ xs) h ≡ kind.UnknownArgument ∷ []
one_dash false x xs h e none unknown = short_fault x xs h none unknown.utf8 e
one_dash true x xs h e none unknown =
    let dash : x ≡ 45 = eqb-true x 45 e in
    subst (λ y. flag_word_fault rules false (long_of (45 ∷ y ∷ xs)) (45 ∷ y ∷ xs) h ≡ kind.UnknownArgument ∷ []) (sym dash)
    (two_dashes xs h (subst (λ y. IsUnknown (45 ∷ y ∷ xs)) dash unknown))

pub unknown_fault : (word : List ℕ) (h : Held) → h.skip ≡ 0 → is_option word ≡ true → IsUnknown word
    → flag_word_fault rules false (long_of word) word h ≡ kind.UnknownArgument ∷ []
unknown_fault [] h none e unknown = absurd (cc)
unknown_fault (b ∷ []) h none e unknown = absurd (cc)
unknown_fault (b ∷ x ∷ xs) h none e unknown =
    let dash : b ≡ 45 = eqb-true b 45 e in
    subst (λ y. flag_word_fault rules false (long_of (y ∷ x ∷ xs)) (y ∷ x ∷ xs) h ≡ kind.UnknownArgument ∷ []) (sym dash)
    (one_dash _ x xs h refl none (subst (λ y. IsUnknown (y ∷ x ∷ xs)) dash unknown))
