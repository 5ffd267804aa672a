-- Changes of the list of pending server ends.
use Rattle.std.specs.Prelude.{ℕ, ◌==◌, ◌++◌, ◌∷◌, [], Bool, not, drop, filter}
use Rattle.kernel_values.specs.declared.state.Port.{Port}
use Rattle.object_store.specs.declared.key.ObjKey.{ObjKey}

abbrev pub with_pending : ℕ → Port → Port
with_pending server port = record port { pending = port.pending ++ server ∷ [] }

abbrev pub without_first : Port → Port
without_first port = record port { pending = drop 1 port.pending }

abbrev pub is_other : ℕ → ℕ → Bool
is_other server other = not (other == server)

abbrev pub without_pending : ℕ → Port → Port
without_pending server port = record port { pending = filter (is_other server) port.pending }

abbrev pub is_other_key : ℕ → ObjKey → Bool
is_other_key server key = is_other server key.serial
