-- Handle tables: at most 64 numbers, each of which names an object and has a cookie.
use Rattle.std.specs.Prelude.{ℕ, Bool, List, [], ◌+◌, ◌==◌, not, nat_lt, nat_le, length, Option, Some, None, slice_get}
use Rattle.std.specs.List.{find, filter, insert, list_any, position_or_len, range_with_len}
use Rattle.std.specs.Option.{unwrap_or}
use Rattle.kernel_values.specs.declared.state.TableEntry.{TableEntry}
use Rattle.kernel_values.specs.declared.state.Application.{Application}
use Rattle.kernel_values.specs.declared.state.CoreState.{CoreState}
use Rattle.kernel_types.specs.Objects.{map_at}

abbrev pub entry_at : List TableEntry → ℕ → Option TableEntry
entry_at table handle = find (λ entry. entry.handle == handle) table

abbrev pub is_free : List TableEntry → ℕ → Bool
is_free table handle = not (list_any (λ entry. entry.handle == handle) table)

-- a table has 64 numbers, from 0 to 63

abbrev pub handle_limit : ℕ
handle_limit = 64

unfoldable pub is_full : List TableEntry → Bool
is_full table = nat_le handle_limit (length table)

unfoldable pub has_room : ℕ → List TableEntry → Bool
has_room count table = nat_le (length table + count) handle_limit

-- the least number that no entry has
unfoldable pub free_handle : List TableEntry → ℕ
free_handle table = unwrap_or (find (is_free table) (range_with_len 0 handle_limit)) 0

-- the table with one more entry, before the first one of a greater number
abbrev pub with_entry : List TableEntry → TableEntry → List TableEntry
with_entry table entry = insert table (position_or_len (λ e. nat_lt entry.handle e.handle) table) entry

-- the table with the object under its least free number, with cookie 0
abbrev pub installed : List TableEntry → ℕ → List TableEntry
installed table object = with_entry table (record { handle = free_handle table; object = object; cookie = 0 })

abbrev pub without : List TableEntry → ℕ → List TableEntry
without table handle = filter (λ entry. not (entry.handle == handle)) table

abbrev pub with_cookie : List TableEntry → ℕ → ℕ → List TableEntry
with_cookie table handle cookie = map_at (λ entry. record entry { cookie = cookie }) table (position_or_len (λ entry. entry.handle == handle) table)

abbrev pub table_in : Option Application → List TableEntry
table_in None = []
table_in (Some app) = app.table

-- the table of an application
abbrev pub table_of : CoreState → ℕ → List TableEntry
table_of c app = table_in (slice_get c.apps app)

abbrev pub table_changed : (List TableEntry → List TableEntry) → Application → Application
table_changed change app = record app { table = change app.table }

abbrev pub with_table : (List TableEntry → List TableEntry) → ℕ → CoreState → CoreState
with_table change app c = record c { apps = map_at (table_changed change) c.apps app }

-- the state in which an application has one more entry, for this object
abbrev pub install : ℕ → ℕ → CoreState → CoreState
install app object c = with_table (λ table. installed table object) app c

abbrev pub remove_entry : ℕ → ℕ → CoreState → CoreState
remove_entry app handle c = with_table (λ table. without table handle) app c
