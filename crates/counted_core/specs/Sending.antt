-- Names that are added.
use Rattle.std.specs.Prelude.{◌≡◌, ℕ, true, List}
use Rattle.kernel_values.specs.declared.state.Body.{Body}
use Rattle.kernel_values.specs.declared.state.CoreState.{CoreState}
use Rattle.core_changes.specs.Looks.{pending_in}
use Rattle.kernel_types.specs.Objects.{is_there, port_of}
use Rattle.kernel_types.specs.Messages.{entry_object, is_in_table}
use Rattle.kernel_types.specs.Reach.{is_in}
use Rattle.kernel_types.specs.Tables.{entry_at, table_of}
use Rattle.object_store.specs.Stock.{Held, changed, one_more}

abbrev pub named_more : List (Held Body) → ℕ → List (Held Body)
named_more items part = changed items part one_more

-- each of these numbers is an object's
abbrev pub AllThere : List ℕ → CoreState → Type 0
AllThere parts c = (o : ℕ) → is_in parts o ≡ true → is_there c.objects o ≡ true

-- the object that a number of an application's table names
unfoldable pub held_object : CoreState → ℕ → ℕ → ℕ
held_object c app handle = entry_object (entry_at (table_of c app) handle)

-- what the numbers of tables name is there
abbrev pub AllHeldThere : CoreState → Type 0
AllHeldThere c = (app handle : ℕ) → is_in_table (table_of c app) handle ≡ true → is_there c.objects (entry_object (entry_at (table_of c app) handle)) ≡ true

-- what ports list is there
abbrev pub AllPendingThere : CoreState → Type 0
AllPendingThere c = (port o : ℕ) → is_in (pending_in (port_of c.objects port)) o ≡ true → is_there c.objects o ≡ true
