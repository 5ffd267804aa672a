-- What a loan of an application's table means: once it is over, the table is the last one written.
use Rattle.std.specs.Prelude.{ℕ, List}
use Rattle.std.specs.Borrow.{Lends, Fml, MutBor}
use Rattle.kernel_values.specs.declared.state.Application.{Application}
use Rattle.kernel_values.specs.declared.state.TableEntry.{TableEntry}
use Rattle.handle_table.specs.contracts.table.Table.{the_row as table_row}
use Rattle.kernel_types.specs.Objects.{map_at}
use Rattle.app_life.specs.Lives.{Lives}
use Rattle.app_life.specs.contracts.apps.Apps.{the_row}

abbrev pub table_set : List TableEntry → Application → Application
table_set table app = record app { table = table }

abbrev pub with_table : Lives → ℕ → List TableEntry → Lives
with_table lives app table = record lives { apps = map_at (table_set table) lives.apps app }

abbrev pub lends_table : MutBor Lives → ℕ → MutBor (List TableEntry) → Fml
lends_table s app r = Lends the_row table_row s r (with_table s.now app)
