-- A word of digits, and what `parse` reads of it.
use Rattle.std.proofs.Common.{◌≡◌, ℕ, ◌+◌, ◌<◌, ◌≤◌, ◌^◌, Bool, true, false, ◌&&◌, ltb, leb, List, [], ◌∷◌, length, Result, Ok, Err, refl, sym, ap, ◌∙◌, arith, rules, zero, suc}
use Rattle.std.specs.List.{list_all}
use Rattle.std.specs.Result.{OkIff}
use Rattle.std.specs.Str.{IsAscii}
use Rattle.std.specs.Str.Parse.{ParsesUnsigned, digits_value}
use Rattle.std.proofs.lemmas.Bool.{ltb-true, leb-true, lt-ltb, false≢true}
use Rattle.std.proofs.lemmas.Str.Parse.{IsDigitsTest, IsNumeralModel, numerals_by_value, parse_digits}
use Rattle.script_lines.specs.declared.fault.SceneKind.TheVariants.{BadWords}
use Rattle.script_lines.specs.Numbers.{is_digit, is_number, number_below}
use Rattle.script_lines.proofs.Bytes.{and_true}

own : IsNumeralModel (λ ds. list_all is_digit ds ≡ true) (digits_value 10)
own = numerals_by_value _ (search rules)

all_digits : (most : ℕ) (word : List ℕ) → is_number most word ≡ true → list_all is_digit word ≡ true
all_digits most word h = (and_true (ltb 0 (length word) && leb (length word) most) (list_all is_digit word) h).1

some_digit : (most : ℕ) (word : List ℕ) → is_number most word ≡ true → 0 < length word
some_digit most word h = ltb-true 0 (length word) (and_true (ltb 0 (length word)) (leb (length word) most) (and_true (ltb 0 (length word) && leb (length word) most) (list_all is_digit word) h).0).0

digits_ascii : (word : List ℕ) → list_all is_digit word ≡ true → IsAscii word
digits_ascii [] h i = omega arith
digits_ascii (b ∷ bs) h zero = omega (arith, leb-true b 57 (and_true (leb 48 b) (leb b 57) (and_true (is_digit b) (list_all is_digit bs) h).0).1)
digits_ascii (b ∷ bs) h (suc i) = digits_ascii bs (and_true (is_digit b) (list_all is_digit bs) h).1 i

pub number_ascii : (most : ℕ) (word : List ℕ) → is_number most word ≡ true → IsAscii word
number_ascii most word h = digits_ascii word (all_digits most word h)

not_below : (a b : ℕ) → ((a < b) → ⊥) → ltb a b ≡ false
not_below a b never = elim (ltb a b) as (λ t. (t ≡ true → ⊥) → t ≡ false) [ true ↦ λ f. absurd (f refl) | false ↦ λ f. refl ] (λ e. never (ltb-true a b e))

pub unparsed : {E : Type 0} (k most : ℕ) (word text : List ℕ) (e : E) → is_number most word ≡ true → text ≡ word → ParsesUnsigned {E = E} k 10 text (Err e) → number_below most (2 ^ k) word ≡ Err BadWords
unfolding number_below
unparsed k most word text e h same p =
    let o = parse_digits own k word (Err e) (rw same at p) (all_digits most word h) in
    rw (h, not_below (digits_value 10 word) (2 ^ k) (λ lt. o (some_digit most word h, lt))) refl
