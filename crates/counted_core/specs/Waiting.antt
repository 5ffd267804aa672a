-- Room for the names of waits: at any time a thread may begin to wait, and the name of its wait can be counted.
use Rattle.std.specs.Prelude.{◌<◌, ◌+◌, ◌^◌, ℕ, List, length, map}
use Rattle.std.specs.List.{flat_map}
use Rattle.kernel_values.specs.declared.state.Activity.{Activity}
use Rattle.kernel_values.specs.declared.state.Body.{Body}
use Rattle.kernel_values.specs.declared.state.CoreState.{CoreState}
use Rattle.kernel_values.specs.declared.state.Thread.{Thread}
use Rattle.kernel_types.specs.Names.{activity_names, wait_names}
use Rattle.object_store.specs.Stock.{Held, total_names}
use Rattle.counted_core.specs.Sweeping.{IsCounted}

-- the names that are no waits, and one for each thread, can be counted
abbrev pub IsWaitable : List Thread → List (Held Body) → Type 0
IsWaitable threads items = total_names items + length threads < 2 ^ 64 + length (flat_map wait_names threads)

-- the objects that an activity's wait names
abbrev pub waited_in : Activity → List ℕ
waited_in activity = map (λ name. name.object) (activity_names activity)

-- what a core keeps: its counts are exact, and its threads may wait
pub record IsExact (k : CoreState) (items : List (Held Body)) : Type 0 where
  pub counted : IsCounted k items
  pub waitable : IsWaitable k.threads items
