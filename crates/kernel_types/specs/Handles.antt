-- `cookie`, `close` and `dup`.
use Rattle.std.specs.Prelude.{ℕ, Option, Some, None, if◌then◌else◌}
use Rattle.kernel_values.specs.declared.reply.Reply.TheVariants as reply
use Rattle.kernel_values.specs.declared.errno.Errno.TheVariants as errno
use Rattle.kernel_values.specs.declared.state.TableEntry.{TableEntry}
use Rattle.kernel_values.specs.declared.state.CoreState.{CoreState}
use Rattle.kernel_types.specs.Tables.{table_of, entry_at, is_full, free_handle, install, remove_entry, with_table, with_cookie}
use Rattle.kernel_types.specs.Outcome.{Outcome, gives, refuses}

abbrev pub set_cookie_entry : CoreState → ℕ → ℕ → ℕ → Option TableEntry → Outcome
set_cookie_entry c app handle cookie None = refuses errno.BadHandle c
set_cookie_entry c app handle cookie (Some entry) = gives reply.Done (with_table (λ table. with_cookie table handle cookie) app c)

unfoldable pub set_cookie : CoreState → ℕ → ℕ → ℕ → Outcome
set_cookie c app handle cookie = set_cookie_entry c app handle cookie (entry_at (table_of c app) handle)

abbrev pub close_entry : CoreState → ℕ → ℕ → Option TableEntry → Outcome
close_entry c app handle None = refuses errno.BadHandle c
close_entry c app handle (Some entry) = gives reply.Done (remove_entry app handle c)

-- `close` takes the entry away; the object ends with the step where nothing else reaches it
unfoldable pub close : CoreState → ℕ → ℕ → Outcome
close c app handle = close_entry c app handle (entry_at (table_of c app) handle)

abbrev pub dup_entry : CoreState → ℕ → Option TableEntry → Outcome
dup_entry c app None = refuses errno.BadHandle c
dup_entry c app (Some entry) =
    (if is_full (table_of c app) then refuses errno.NoResources c
    else gives (reply.Handle (free_handle (table_of c app))) (install app entry.object c))

unfoldable pub dup : CoreState → ℕ → ℕ → Outcome
dup c app handle = dup_entry c app (entry_at (table_of c app) handle)
