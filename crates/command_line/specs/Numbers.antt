-- Words that are numbers.
use Rattle.std.specs.Prelude.{ℕ, Bool, List, ◌&&◌, length, nat_lt, nat_le, Option, Some, None, if◌then◌else◌}
use Rattle.std.specs.List.{list_all}
use Rattle.std.specs.Str.Parse.{digits_value}

abbrev pub is_digit : ℕ → Bool
is_digit byte = nat_le 48 byte && nat_le byte 57

-- digits alone, at least one and at most so many
abbrev pub is_number : ℕ → List ℕ → Bool
is_number most word = (nat_lt 0 (length word) && nat_le (length word) most) && list_all is_digit word

-- a number of at most so many digits, within both bounds
unfoldable pub number_within : ℕ → ℕ → ℕ → List ℕ → Option ℕ
number_within digits least most word = if is_number digits word && (nat_le least (digits_value 10 word) && nat_le (digits_value 10 word) most) then Some (digits_value 10 word) else None
