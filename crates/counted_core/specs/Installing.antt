-- Names that new numbers of a table make.
use Rattle.std.specs.Prelude.{ℕ, List, Option, Some, None}
use Rattle.kernel_values.specs.declared.state.Application.{Application}
use Rattle.kernel_values.specs.declared.state.Body.{Body}
use Rattle.object_store.specs.Stock.{Held}
use Rattle.counted_core.specs.Sending.{named_more}

-- the object has one name more, where the application is there
abbrev pub named_by : Option Application → ℕ → List (Held Body) → List (Held Body)
named_by None object items = items
named_by (Some app) object items = named_more items object
