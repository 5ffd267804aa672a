-- Which words numbers and bytes make, and that each is read back from its word.
use Rattle.std.proofs.Common.{◌≡◌, ◌<◌, ◌≤◌, ℕ, zero, suc, ◌+◌, ◌^◌, ◌/◌, ◌%◌, Bool, true, false, cond, List, [], ◌∷◌, length, drop, get_or, refl, sym, ap, ◌∙◌, subst, arith, inl, inr}
use Rattle.std.specs.Prelude.{◌⊎◌, decimal, nat_lt, not, ◌==◌, ◌&&◌, slice_index, Result, Ok, Err}
use Rattle.std.specs.List.{AllByRecursion, list_all}
use Rattle.std.specs.Fmt.{digits, digits_onto, digit_glyph}
use Rattle.std.specs.Str.Parse.{digits_value}
use Rattle.std.proofs.lemmas.Bool.{cases_lt}
use Rattle.std.proofs.lemmas.Bool.Decides.{nat_tests}
use Rattle.std.proofs.lemmas.Fmt.{decimal_is_IsNumeral, decimal_is_IsNumeral_wide, length-decimal-le}
use Rattle.hex.specs.Hex.{decode_of, encode_with, lower_digits, IsBytes}
use Rattle.hex.proofs.HexLemmas.{decode_of-encode_lower}
use Rattle.hex.specs.declared.error.FromHexError.{FromHexError}
use Rattle.report_text.specs.Lines.{blank, line_end, hex_word}
use Rattle.report_text.specs.Plain.{IsInner, IsWord}

-- Words by a test.

abbrev pub is_inner : ℕ → Bool
is_inner byte = not (byte == blank) && not (byte == line_end)

unfoldable pub is_plain : List ℕ → Bool
is_plain word = list_all is_inner word

pub first_of : (a b : Bool) → (a && b) ≡ true → a ≡ true
first_of true b h = refl
first_of false b h = absurd (cc)

pub second_of : (a b : Bool) → (a && b) ≡ true → b ≡ true
second_of true b h = h
second_of false b h = absurd (cc)

inner_is : (byte : ℕ) → is_inner byte ≡ true → IsInner byte
inner_is byte h = (
  (λ is. let test : is_inner blank ≡ true = subst (λ b. is_inner b ≡ true) is h in absurd (cc)),
  (λ is. let test : is_inner line_end ≡ true = subst (λ b. is_inner b ≡ true) is h in absurd (cc)),
)

inner_by : (bytes : List ℕ) → list_all is_inner bytes ≡ true → IsWord bytes
inner_by [] h = tt
inner_by (byte ∷ bytes) h = (
  inner_is byte (first_of (is_inner byte) (list_all is_inner bytes) h),
  inner_by bytes (second_of (is_inner byte) (list_all is_inner bytes) h),
)

pub word_by : (word : List ℕ) → is_plain word ≡ true → IsWord word
unfolding is_plain
word_by word h = inner_by word h

pub words_by : (words : List (List ℕ)) → list_all is_plain words ≡ true → AllByRecursion IsWord words
words_by [] h = tt
words_by (word ∷ words) h = (word_by word (first_of (is_plain word) (list_all is_plain words) h), words_by words (second_of (is_plain word) (list_all is_plain words) h))

-- Decimal digits.

abbrev pub IsDigit : ℕ → Type 0
IsDigit byte = (48 ≤ byte) × (byte ≤ 57)

glyph_digit : (n : ℕ) → IsDigit (digit_glyph false (n % 10))
glyph_digit n = by (nat_lt (n % 10) 10) refl
  where
    by : (t : Bool) → nat_lt (n % 10) 10 ≡ t → IsDigit (cond t (48 + n % 10) (87 + n % 10))
    by true is = (omega arith, omega arith)
    by false is = absurd (let below : n % 10 < 10 = omega arith in grind (arith, nat_tests))

-- digits, at least one of them
pub record Digits (word : List ℕ) : Type 0 where
  pub all : AllByRecursion IsDigit word
  pub some : 0 < length word

either : (t : Bool) (one other : List ℕ) → Digits one → Digits other → Digits (cond t one other)
either true one other p q = p
either false one other p q = q

onto_digits : (k n byte : ℕ) (acc : List ℕ) → IsDigit byte → AllByRecursion IsDigit acc → Digits (digits_onto k 10 false n (byte ∷ acc))
onto_digits zero n byte acc is all = record { all = (is, all); some = omega arith }
onto_digits (suc k) n byte acc is all = either (n / 10 == 0) (digit_glyph false (n % 10) ∷ byte ∷ acc) (digits_onto k 10 false (n / 10) (digit_glyph false (n % 10) ∷ byte ∷ acc))
    (record { all = (glyph_digit n, (is, all)); some = omega arith }) (onto_digits k (n / 10) (digit_glyph false (n % 10)) (byte ∷ acc) (glyph_digit n) (is, all))

onto_none : (k n : ℕ) → Digits (digits_onto (suc k) 10 false n [])
onto_none k n = either (n / 10 == 0) (digit_glyph false (n % 10) ∷ []) (digits_onto k 10 false (n / 10) (digit_glyph false (n % 10) ∷ []))
    (record { all = (glyph_digit n, tt); some = omega arith }) (onto_digits k (n / 10) (digit_glyph false (n % 10)) [] (glyph_digit n) tt)

pub decimal_digits : (n : ℕ) → Digits (decimal n)
unfolding digits
decimal_digits n = onto_none 63 n

digits_plain : (word : List ℕ) → AllByRecursion IsDigit word → list_all is_inner word ≡ true
digits_plain [] all = refl
digits_plain (byte ∷ word) all =
    let test : is_inner byte ≡ true = (let from : 48 ≤ byte = all.0.0 in grind (arith, nat_tests)) in rw (test, digits_plain word all.1) refl

pub plain_decimal : (n : ℕ) → is_plain (decimal n) ≡ true
unfolding is_plain
plain_decimal n = digits_plain (decimal n) (decimal_digits n).all

first_digit : (word : List ℕ) → Digits word → IsDigit (get_or word 0 0)
first_digit [] d = absurd (omega (arith, d.some))
first_digit (byte ∷ word) d = d.all.0

-- a word that does not begin with a digit is none
pub no_decimal : (n : ℕ) (word : List ℕ) → decimal n ≡ word → IsDigit (get_or word 0 0)
no_decimal n word e = subst (λ w. IsDigit (get_or w 0 0)) e (first_digit (decimal n) (decimal_digits n))

-- the number of a word
unfoldable pub number_in : List ℕ → ℕ
number_in word = digits_value 10 word

pub number_again : (n : ℕ) → n < 2 ^ 64 → number_in (decimal n) ≡ n
unfolding number_in
number_again n small = (decimal_is_IsNumeral n small).1

-- a number of 64 digits or more is spelled by 64

power_some : (k : ℕ) → 1 ≤ 10 ^ k
power_some zero = omega arith
power_some (suc k) = omega (arith, power_some k)

goes_on : (t : Bool) (one other : List ℕ) (count : ℕ) → t ≡ false → length other ≡ count → length (cond t one other) ≡ count
goes_on true one other count is many = absurd (cc)
goes_on false one other count is many = many

all_digits : (k n : ℕ) (acc : List ℕ) → 10 ^ k ≤ n → length (digits_onto k 10 false n acc) ≡ k + length acc
all_digits zero n acc large = omega arith
all_digits (suc k) n acc large =
    let more : 1 ≤ n / 10 = omega (arith, large, power_some k) in
    goes_on (n / 10 == 0) (digit_glyph false (n % 10) ∷ acc) (digits_onto k 10 false (n / 10) (digit_glyph false (n % 10) ∷ acc)) (suc k + length acc) (grind (arith, nat_tests))
    (omega (arith, all_digits k (n / 10) (digit_glyph false (n % 10) ∷ acc) (omega (arith, large))))

-- the other number may be as large as it will
pub number_same : (m n : ℕ) → m < 2 ^ 64 → decimal m ≡ decimal n → m ≡ n
unfolding number_in digits
number_same m n small same = by (cases_lt n (10 ^ 64))
  where
    by : (n < 10 ^ 64) ⊎ (10 ^ 64 ≤ n) → m ≡ n
    by (inl below) = sym (number_again m small) ∙ ap number_in same ∙ (decimal_is_IsNumeral_wide n below).1
    by (inr large) = absurd (omega (arith, length-decimal-le 20 m (omega arith) (omega arith) small, ap length same, all_digits 64 n [] large))

pub numbers_same : (m n : ℕ) → m < 2 ^ 64 → n < 2 ^ 64 → decimal m ≡ decimal n → m ≡ n
numbers_same m n p q e = sym (number_again m p) ∙ ap number_in e ∙ number_again n q

-- Bytes.

pub ok_or_none : Result (List ℕ) FromHexError → List ℕ
ok_or_none (Ok bytes) = bytes
ok_or_none (Err error) = []

unfoldable pub bytes_in : List ℕ → List ℕ
bytes_in word = ok_or_none (decode_of word)

abbrev pub IsByte : ℕ → Type 0
IsByte byte = byte < 2 ^ 8

are_bytes : (bytes : List ℕ) → AllByRecursion IsByte bytes → IsBytes bytes
are_bytes [] all i = omega arith
are_bytes (byte ∷ bytes) all zero = omega (arith, all.0)
are_bytes (byte ∷ bytes) all (suc i) = are_bytes bytes all.1 i

pub bytes_again : (bytes : List ℕ) → AllByRecursion IsByte bytes → bytes_in (hex_word bytes) ≡ bytes
unfolding bytes_in ok_or_none
bytes_again [] all = refl
bytes_again (byte ∷ bytes) all = ap ok_or_none (decode_of-encode_lower (byte ∷ bytes) (are_bytes (byte ∷ bytes) all))

-- a place past the table's end reads as 0, which is no digit
inner_at : (table : List ℕ) (i : ℕ) → list_all is_inner table ≡ true → is_inner (slice_index table i) ≡ true
inner_at [] i h = refl
inner_at (byte ∷ table) zero h = first_of (is_inner byte) (list_all is_inner table) h
inner_at (byte ∷ table) (suc i) h = inner_at table i (second_of (is_inner byte) (list_all is_inner table) h)

encoded_plain : (bytes : List ℕ) → list_all is_inner (encode_with lower_digits bytes) ≡ true
unfolding encode_with
encoded_plain [] = refl
encoded_plain (byte ∷ bytes) =
    let high = inner_at lower_digits (byte / 16) refl in
    let low = inner_at lower_digits (byte % 16) refl in
    rw (high, low, encoded_plain bytes) refl

pub plain_hex : (bytes : List ℕ) → is_plain (hex_word bytes) ≡ true
unfolding is_plain
plain_hex [] = refl
plain_hex (byte ∷ bytes) = encoded_plain (byte ∷ bytes)

-- Bytes that have the word of bytes are bytes.

some_at : (table : List ℕ) (i : ℕ) → list_all (nat_lt 0) table ≡ true → i < length table → 0 < slice_index table i
some_at [] i h below = absurd (omega arith)
some_at (byte ∷ table) zero h below = let test : nat_lt 0 byte ≡ true = first_of (nat_lt 0 byte) (list_all (nat_lt 0) table) h in grind (arith, nat_tests)
some_at (byte ∷ table) (suc i) h below = some_at table i (second_of (nat_lt 0 byte) (list_all (nat_lt 0) table) h) (omega arith)

none_past : (table : List ℕ) (i : ℕ) → length table ≤ i → slice_index table i ≡ 0
none_past [] i past = refl
none_past (byte ∷ table) zero past = absurd (omega arith)
none_past (byte ∷ table) (suc i) past = none_past table i (omega arith)

byte_too : (x y : ℕ) → IsByte x → slice_index lower_digits (x / 16) ≡ slice_index lower_digits (y / 16) → IsByte y
byte_too x y small same = by (cases_lt y (2 ^ 8))
  where
    by : (y < 2 ^ 8) ⊎ (2 ^ 8 ≤ y) → IsByte y
    by (inl below) = below
    by (inr large) = absurd (omega (arith, same, some_at lower_digits (x / 16) refl (omega arith), none_past lower_digits (y / 16) (omega arith)))

encoded_too : (xs ys : List ℕ) → AllByRecursion IsByte xs → encode_with lower_digits xs ≡ encode_with lower_digits ys → AllByRecursion IsByte ys
unfolding encode_with
encoded_too xs [] all same = tt
encoded_too [] (y ∷ ys) all same = absurd (cc)
encoded_too (x ∷ xs) (y ∷ ys) all same = (byte_too x y all.0 (ap (λ l. get_or {A = ℕ} l 0 0) same), encoded_too xs ys all.1 (ap (drop 2) same))

bytes_too : (xs ys : List ℕ) → AllByRecursion IsByte xs → hex_word xs ≡ hex_word ys → AllByRecursion IsByte ys
unfolding encode_with
bytes_too xs [] all same = tt
bytes_too [] (y ∷ ys) all same = absurd (cc)
bytes_too (x ∷ xs) (y ∷ ys) all same = encoded_too (x ∷ xs) (y ∷ ys) all same

-- what is read from a word is what it was made of, where it has the same word and is within its type

pub number_back : (n : ℕ) → number_in (decimal n) < 2 ^ 64 → decimal (number_in (decimal n)) ≡ decimal n → number_in (decimal n) ≡ n
number_back n small same = number_same (number_in (decimal n)) n small same

pub bytes_back : (bytes : List ℕ) → AllByRecursion IsByte (bytes_in (hex_word bytes)) → hex_word (bytes_in (hex_word bytes)) ≡ hex_word bytes → bytes_in (hex_word bytes) ≡ bytes
bytes_back bytes all same = bytes_again bytes (bytes_too (bytes_in (hex_word bytes)) bytes all same)
