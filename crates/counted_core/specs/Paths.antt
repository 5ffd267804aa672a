-- Ports in a store, by their paths.
use Rattle.std.specs.Prelude.{ℕ, Bool, List}
use Rattle.kernel_values.specs.declared.state.Body.{Body}
use Rattle.kernel_values.specs.declared.state.Object.{Object}
use Rattle.kernel_types.specs.Objects.{is_port_at}
use Rattle.object_store.specs.Stock.{Held, value_at}
use Rattle.counted_core.specs.Found.{port_if}

-- whether the value of this number is a port with this path
abbrev pub has_path_at : List ℕ → List (Held Body) → ℕ → Bool
has_path_at path items at = is_port_at path (port_if (value_at items at))

abbrev pub id_of : Object → ℕ
id_of object = object.id
