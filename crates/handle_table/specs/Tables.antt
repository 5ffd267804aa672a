-- Handle tables: lists of entries in rising order of their numbers, each number once.
use Rattle.std.specs.Prelude.{ℕ, ◌+◌, ◌<◌, ◌≤◌, Bool, true, nat_lt, List, [], ◌∷◌, find, Option, Some, None, option_map, if◌then◌else◌}
use Rattle.kernel_values.specs.declared.state.TableEntry.{TableEntry}
use Rattle.handle_table.specs.declared.table.DupRefused.{DupRefused}
use Rattle.handle_table.specs.declared.table.DupRefused.TheVariants.{BadHandle, Full}
-- Entries by number, the least free number, a table with one more entry, without one and with another cookie are said with the
-- tables of applications, in kernel_types.
pub use Rattle.kernel_types.specs.Tables.{entry_at, is_free, with_entry, installed, without, with_cookie}
unfoldable pub use Rattle.kernel_types.specs.Tables.{is_full, free_handle}

-- a table has 64 numbers, from 0 to 63
abbrev pub table_size : ℕ
table_size = 64

abbrev pub handle_of : TableEntry → ℕ
handle_of entry = entry.handle

-- the least number in use above the given one, or the least of all
abbrev pub is_after : Option ℕ → TableEntry → Bool
is_after None entry = true
is_after (Some handle) entry = nat_lt handle entry.handle

abbrev pub next_handle : List TableEntry → Option ℕ → Option ℕ
next_handle table after = option_map handle_of (find (is_after after) table)

-- what doubling a number makes of the table: the entry's object gets one more number
abbrev pub doubled : List TableEntry → Option TableEntry → List TableEntry
doubled table None = table
doubled table (Some entry) = installed table entry.object

-- why a number cannot be doubled, in the order in which it is asked
abbrev pub dup_refusal : List TableEntry → Option TableEntry → Option DupRefused
dup_refusal table None = Some BadHandle
dup_refusal table (Some entry) = if is_full table then Some Full else None

-- from `low` on the numbers rise, all below 64
abbrev pub IsTableFrom : ℕ → List TableEntry → Type 0
IsTableFrom low [] = Unit {0}
IsTableFrom low (entry ∷ rest) = (low ≤ entry.handle) × (entry.handle < table_size)
    × IsTableFrom (entry.handle + 1) rest
