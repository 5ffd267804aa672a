-- Bytes that may stand in a line are ASCII, and so is what follows its first words.
use Rattle.std.proofs.Common.{◌≡◌, ℕ, zero, suc, ◌+◌, ◌<◌, ◌≤◌, Bool, true, false, ◌&&◌, ◌||◌, eqb, leb, cond, ◌⊎◌, inl, inr, List, [], ◌∷◌, length, refl, arith}
use Rattle.std.specs.Prelude.{nat_le, ◌==◌}
use Rattle.std.specs.List.{list_all}
use Rattle.std.specs.Str.{IsAscii}
use Rattle.std.proofs.lemmas.Bool.{false≢true, eqb-true, leb-true}
use Rattle.script_lines.specs.Texts.{is_blank, is_text_byte, without_blanks, without_word, after_two_words}

pub and_true : (a b : Bool) → (a && b) ≡ true → (a ≡ true) × (b ≡ true)
and_true true b h = (refl, h)
and_true false b h = absurd (false≢true h)

or_true : (a b : Bool) → (a || b) ≡ true → (a ≡ true) ⊎ (b ≡ true)
or_true true b h = inl refl
or_true false b h = inr h

small : (byte : ℕ) → is_text_byte byte ≡ true → byte < 128
small byte h = elim (or_true (eqb byte 9) (nat_le 32 byte && nat_le byte 126) h) [
  | inl tab ↦ omega (arith, eqb-true byte 9 tab)
  | inr text ↦ omega (arith, leb-true byte 126 (and_true (nat_le 32 byte) (nat_le byte 126) text).1)
]

pub text_ascii : (bytes : List ℕ) → list_all is_text_byte bytes ≡ true → IsAscii bytes
text_ascii [] h i = omega arith
text_ascii (b ∷ bs) h zero = small b (and_true (is_text_byte b) (list_all is_text_byte bs) h).0
text_ascii (b ∷ bs) h (suc i) = text_ascii bs (and_true (is_text_byte b) (list_all is_text_byte bs) h).1 i

chosen : (b : Bool) (xs ys : List ℕ) → list_all is_text_byte xs ≡ true → list_all is_text_byte ys ≡ true → list_all is_text_byte (cond b xs ys) ≡ true
chosen true xs ys p q = p
chosen false xs ys p q = q

blanks_kept : (bytes : List ℕ) → list_all is_text_byte bytes ≡ true → list_all is_text_byte (without_blanks bytes) ≡ true
unfolding without_blanks
blanks_kept [] h = refl
blanks_kept (b ∷ bs) h = chosen (is_blank b) (without_blanks bs) (b ∷ bs) (blanks_kept bs (and_true (is_text_byte b) (list_all is_text_byte bs) h).1) h

word_kept : (bytes : List ℕ) → list_all is_text_byte bytes ≡ true → list_all is_text_byte (without_word bytes) ≡ true
unfolding without_word
word_kept [] h = refl
word_kept (b ∷ bs) h = chosen (is_blank b) (b ∷ bs) (without_word bs) h (word_kept bs (and_true (is_text_byte b) (list_all is_text_byte bs) h).1)

pub rest_kept : (line : List ℕ) → list_all is_text_byte line ≡ true → list_all is_text_byte (after_two_words line) ≡ true
unfolding after_two_words
rest_kept line h = blanks_kept _ (word_kept _ (blanks_kept _ (word_kept _ (blanks_kept line h))))
