-- Where the search for the next turn of the serial order begins.
use Rattle.std.specs.Prelude.{◌<◌, ◌+◌, ℕ, Option, Some, None, ⊤}

-- the first actor that is asked for the next turn
abbrev pub first_after : Option ℕ → ℕ
first_after None = 0
first_after (Some last) = last + 1

abbrev pub IsBelow : ℕ → Option ℕ → Type 0
IsBelow count None = ⊤
IsBelow count (Some last) = last < count
