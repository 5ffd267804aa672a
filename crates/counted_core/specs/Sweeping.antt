-- What a sweep by counts makes of a store.
use Rattle.std.specs.Prelude.{◌≡◌, ◌==◌, ℕ, List, [], ◌++◌, Option, Some, map}
use Rattle.std.specs.List.{filter, flat_map}
use Rattle.kernel_values.specs.declared.state.Application.{Application}
use Rattle.kernel_values.specs.declared.state.TableEntry.{TableEntry}
use Rattle.kernel_values.specs.declared.state.Thread.{Thread}
use Rattle.kernel_values.specs.declared.state.Body.{Body}
use Rattle.kernel_values.specs.declared.state.CoreState.{CoreState}
use Rattle.kernel_types.specs.Names.{Name, names_of, root, table_names, wait_names}
use Rattle.kernel_types.specs.Sweep.{sweep}
use Rattle.object_store.specs.Stock.{Held, last_at, unnamed}
use Rattle.count_laws.specs.Dropping.{IsLeft, Ranked}
use Rattle.count_laws.specs.Thinning.{Fit}
use Rattle.counted_core.specs.Held.{IsLister, IsOwed, dropped_items, objects_of, peer_in}

-- what tables, the bridge and waits name
abbrev pub roots : CoreState → List Name
roots c = flat_map table_names c.apps ++ map root c.bridged ++ flat_map wait_names c.threads

abbrev pub rooted : CoreState → ℕ → ℕ
rooted c o = names_of (roots c) o

-- the state with the store's values as its objects
abbrev pub at : CoreState → List (Held Body) → CoreState
at k items = record k { objects = objects_of items }

-- the counts are exact
abbrev pub IsCounted : CoreState → List (Held Body) → Type 0
IsCounted k items = IsOwed (rooted k) items []

-- a value with no name but the store's own was dropped
pub record HasDroppedTo (x : ℕ) (b : Body) (old new : List (Held Body)) : Type 0 where
  pub port : Option ℕ
  pub lister : IsLister (unnamed old x) (peer_in b) port
  pub items : new ≡ dropped_items x port b old

abbrev pub HasDropped : ℕ → List (Held Body) → List (Held Body) → Type 0
HasDropped x old new = (b : Body) → last_at old x ≡ Some b → HasDroppedTo x b old new

-- some dead values of the old store were dropped
pub record IsSweeping (k : CoreState) (old new : List (Held Body)) : Type 0 where
  pub left : IsLeft (at k old) (at k new)
  pub counted : IsCounted k new

abbrev pub Sweeping : List (Held Body) → List (Held Body) → Type 0
Sweeping old new = (k : CoreState) → Fit (at k old) → IsCounted k old → IsSweeping k old new

-- all were
pub record IsSwept (k : CoreState) (old new : List (Held Body)) : Type 0 where
  pub state : at k new ≡ sweep (at k old)
  pub fit : Fit (at k new)
  pub ranked : Ranked (at k new)
  pub counted : IsCounted k new

abbrev pub Swept : List (Held Body) → List (Held Body) → Type 0
Swept old new = (k : CoreState) → Fit (at k old) → Ranked (at k old) → IsCounted k old → IsSwept k old new

-- what a core stands for, by its parts
abbrev pub core_of : List Application → List Thread → List (Held Body) → ℕ → ℕ → List ℕ → CoreState
core_of apps threads items next clock bridged = record { apps = apps; threads = threads; objects = objects_of items; next = next; clock = clock; bridged = bridged }

-- the objects of the entries of a number
abbrev pub removed : List TableEntry → ℕ → List ℕ
removed table handle = map (λ entry. entry.object) (filter (λ entry. entry.handle == handle) table)
