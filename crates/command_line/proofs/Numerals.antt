-- A word of digits, and what `parse` reads of it.
use Rattle.std.proofs.Common.{◌≡◌, ℕ, ◌<◌, ◌≤◌, ◌^◌, Bool, true, false, ◌&&◌, ltb, leb, List, length, None, Err, refl, arith, rules}
use Rattle.std.specs.List.{list_all}
use Rattle.std.specs.Str.Parse.{ParsesUnsigned, digits_value}
use Rattle.std.proofs.lemmas.Bool.{ltb-true, leb-true}
use Rattle.std.proofs.lemmas.Str.Parse.{IsNumeralModel, numerals_by_value, parse_digits}
use Rattle.command_line.specs.Numbers.{is_digit, is_number, number_within}

own : IsNumeralModel (λ ds. list_all is_digit ds ≡ true) (digits_value 10)
own = numerals_by_value _ (search rules)

both : (a b : Bool) → a && b ≡ true → (a ≡ true) × (b ≡ true)
both true b e = (refl, e)
both false b e = absurd (cc)

past : (number most : ℕ) → ((number < 2 ^ 64) → ⊥) → most < 2 ^ 64 → leb number most ≡ false
past number most unfit fits = elim (leb number most) as (λ t. (t ≡ true → ⊥) → t ≡ false) [ true ↦ λ f. absurd (f refl) | false ↦ λ f. refl ]
    (λ e. let within : number ≤ most = leb-true number most e in unfit (omega (arith, within, fits)))

never : (a : Bool) → a && false ≡ false
never true = refl
never false = refl

-- digits that are no 64-bit number are past every bound
pub past_bound : {E : Type 0} (digits least most : ℕ) (word : List ℕ) (e : E) → is_number digits word ≡ true → most < 2 ^ 64 → ParsesUnsigned {E = E} 64 10 word (Err e)
    → number_within digits least most word ≡ None
unfolding number_within
past_bound digits least most word e is fits parsed =
    let parts = both (ltb 0 (length word) && leb (length word) digits) (list_all is_digit word) is in
    let some : 0 < length word = ltb-true 0 (length word) (both (ltb 0 (length word)) (leb (length word) digits) parts.0).0 in
    let unread = parse_digits own 64 word (Err e) parsed parts.1 in
    rw (is, past (digits_value 10 word) most (λ less. unread (some, less)) fits, never (leb least (digits_value 10 word))) refl
