-- Least free numbers below a limit that is a variable.
use Rattle.std.specs.Prelude.{ℕ, List, ◌-◌}
use Rattle.std.specs.List.{find, range_with_len}
use Rattle.std.specs.Option.{unwrap_or}
use Rattle.kernel_values.specs.declared.state.TableEntry.{TableEntry}
use Rattle.kernel_types.specs.Tables.{is_free}
use Rattle.kernel_types.specs.Messages.{is_free_id}
use Rattle.kernel_values.specs.declared.state.Message.{Message}

-- the least number below the limit that no entry has; 0 where there is none
unfoldable pub free_below : List TableEntry → ℕ → ℕ
free_below table limit = unwrap_or (find (is_free table) (range_with_len 0 limit)) 0

-- the least id from 1 and below the limit that no open message has; 0 where there is none
unfoldable pub free_id_below : List Message → ℕ → ℕ
free_id_below messages limit = unwrap_or (find (is_free_id messages) (range_with_len 1 (limit - 1))) 0
